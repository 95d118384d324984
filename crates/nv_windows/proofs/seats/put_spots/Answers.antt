use Rattle.nv_windows.proofs.seats.put_spots.Goals as goal

pub loop-window-preserved : goal.loop-window-preserved
loop-window-preserved c =
    λ ws found all. c.put_spot.ensures ws (found c.loop-window.window-index _ c.loop-window-test.true) (c.loop-window.invariant ws found all)
