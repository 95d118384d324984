-- inside: shapes as lists of tokens, by which a proof tells them apart. No contract cites this.
use Rattle.std.specs.Prelude.{◌≡◌, ℕ, ℤ, pos, ◌==◌, if◌then◌else◌, List, [], ◌∷◌}
use Rattle.std.specs.Coded.{Coded, code_by, coded×, coded_ℕ, coded_ℤ, coded_list}
use Rattle.std.proofs.Common.{refl, ap, ◌∙◌}
use Rattle.nv_layout.specs.Content.{Shape, leaf, group, Shapes, no_shapes, more_shapes}
use Rattle.nv_layout.specs.Changes.{append}
use Rattle.nv_layout.specs.declared.nodes.Axis.{Axis}
use Rattle.nv_layout.specs.declared.nodes.Axis.TheVariants.{Across, Down}
use Rattle.nv_layout.specs.declared.nodes.Leaf.{Leaf}

-- a token: 0 for a leaf, with its window, width and height, 1 and 2 for the begin of a group across
-- and down, and 3 for the end of one
abbrev pub Token : Type 0
Token = ((ℕ × ℤ) × ℕ) × ℕ

abbrev pub mark : ℕ → Token
mark kind = (((kind, pos 0), 0), 0)

abbrev pub leaf_token : Leaf → Token
leaf_token l = (((0, l.window), l.width), l.height)

abbrev pub begin : Axis → Token
begin Across = mark 1
begin Down = mark 2

-- the tokens of a shape, and of shapes, before others
abbrev mutual
  pub tokens : Shape → List Token → List Token
  tokens (leaf l) k = leaf_token l ∷ k
  tokens (group a ts) k = begin a ∷ tokens_of_all ts (mark 3 ∷ k)

  pub tokens_of_all : Shapes → List Token → List Token
  tokens_of_all no_shapes k = k
  tokens_of_all (more_shapes t ts) k = tokens t (tokens_of_all ts k)

-- groups that are being read, from their ends: the innermost one first
abbrev pub put_shape : Shape → List Shapes → List Shapes
put_shape t [] = []
put_shape t (ts ∷ rest) = more_shapes t ts ∷ rest

abbrev pub close_group : Axis → List Shapes → List Shapes
close_group a [] = []
close_group a (ts ∷ rest) = put_shape (group a ts) rest

abbrev pub read_token : Token → List Shapes → List Shapes
read_token k rest =
    if k.0.0.0 == 0 then put_shape (leaf (record {
      window = k.0.0.1;
      width = k.0.1;
      height = k.1;
    })) rest
    else if k.0.0.0 == 1 then close_group Across rest
    else if k.0.0.0 == 2 then close_group Down rest
    else no_shapes ∷ rest

abbrev pub shapes_read : List Token → List Shapes
shapes_read [] = no_shapes ∷ []
shapes_read (k ∷ ks) = read_token k (shapes_read ks)

abbrev pub first_of : Shapes → Shape
first_of no_shapes = leaf (record { window = pos 0; width = 0; height = 0 })
first_of (more_shapes t ts) = t

abbrev pub first_read : List Shapes → Shape
first_read [] = leaf (record { window = pos 0; width = 0; height = 0 })
first_read (ts ∷ rest) = first_of ts

abbrev pub put_all : Shapes → List Shapes → List Shapes
put_all no_shapes rest = rest
put_all (more_shapes t ts) rest = put_shape t (put_all ts rest)

append_none : (ts : Shapes) → append ts no_shapes ≡ ts
append_none no_shapes = refl
append_none (more_shapes t ts) = ap (more_shapes t) (append_none ts)

all_put : (ts us : Shapes) (rest : List Shapes) → put_all ts (us ∷ rest) ≡ append ts us ∷ rest
all_put no_shapes us rest = refl
all_put (more_shapes t ts) us rest = ap (put_shape t) (all_put ts us rest)

closed : (a : Axis) (ts : Shapes) (rest : List Shapes)
    → close_group a (put_all ts (no_shapes ∷ rest)) ≡ put_shape (group a ts) rest
closed a ts rest = ap (close_group a) (all_put ts no_shapes rest)
    ∙ ap (λ us. put_shape (group a us) rest) (append_none ts)

begun : (a : Axis) (rest : List Shapes) → read_token (begin a) rest ≡ close_group a rest
begun Across rest = refl
begun Down rest = refl

mutual
  pub read_back : (t : Shape) (k : List Token)
      → shapes_read (tokens t k) ≡ put_shape t (shapes_read k)
  read_back (leaf l) k = refl
  read_back (group a ts) k =
      begun a (shapes_read (tokens_of_all ts (mark 3 ∷ k)))
      ∙ ap (close_group a) (all_back ts (mark 3 ∷ k))
      ∙ closed a ts (shapes_read k)

  all_back : (ts : Shapes) (k : List Token)
      → shapes_read (tokens_of_all ts k) ≡ put_all ts (shapes_read k)
  all_back no_shapes k = refl
  all_back (more_shapes t ts) k =
      read_back t (tokens_of_all ts k) ∙ ap (put_shape t) (all_back ts k)

abbrev pub shape_code : Coded Shape
shape_code =
    code_by (List Token) (coded_list (coded× (coded× (coded× coded_ℕ coded_ℤ) coded_ℕ) coded_ℕ))
    (λ t. tokens t []) (λ ks. first_read (shapes_read ks)) (λ t. ap first_read (read_back t []))
