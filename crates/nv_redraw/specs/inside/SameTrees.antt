-- inside: whether two trees are the same.
use Rattle.std.specs.Prelude.{Bool, true, false, ◌&&◌, ◌==◌, bytes_eq}
use Rattle.std.specs.Ordering.{int_eq}
use Rattle.nv_hl.specs.Attributes.{same_flag}
use Rattle.nv_value.specs.Content.{Tree, Trees, no_more, one, nil, truth, integer, big, text, bin, list, pairs, ext, opaque}

abbrev mutual
  pub same_tree : Tree → Tree → Bool
  same_tree nil nil = true
  same_tree (truth a) (truth b) = same_flag a b
  same_tree (integer a) (integer b) = int_eq a b
  same_tree (big a) (big b) = a == b
  same_tree (text a) (text b) = bytes_eq a b
  same_tree (bin a) (bin b) = bytes_eq a b
  same_tree (list a) (list b) = same_trees a b
  same_tree (pairs a) (pairs b) = same_trees a b
  same_tree (ext k a) (ext l b) = int_eq k l && bytes_eq a b
  same_tree (opaque a) (opaque b) = bytes_eq a b
  same_tree _ _ = false

  pub same_trees : Trees → Trees → Bool
  same_trees no_more no_more = true
  same_trees (one t ts) (one u us) = same_tree t u && same_trees ts us
  same_trees _ _ = false
