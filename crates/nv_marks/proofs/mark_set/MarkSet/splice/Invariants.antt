use Rattle.nv_marks.proofs.mark_set.MarkSet.splice.Given as goal

abbrev pub ghosts-splice_from : goal.ghosts-splice_from
ghosts-splice_from a = record { name = a.blank.name; parts = a.blank.parts }
