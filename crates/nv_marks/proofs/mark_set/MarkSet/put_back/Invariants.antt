use Rattle.nv_marks.proofs.mark_set.MarkSet.put_back.Given as goal

abbrev pub ghosts-put_back_from : goal.ghosts-put_back_from
ghosts-put_back_from a = record { name = a.blank.name; parts = a.blank.parts }
