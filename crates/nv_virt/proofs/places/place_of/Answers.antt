use Rattle.std.proofs.Common.{◌≡◌, ◌<◌, ◌+◌, ◌-◌, ℕ, length, List, IfOk, Option, Result, Ok, Err, ap, arith, min, subst, sym}
use Rattle.nv_notes.specs.declared.note.At.{At}
use Rattle.nv_notes.specs.declared.note.At.TheVariants.{Eol, Overlay, RightAlign}
use Rattle.nv_virt.specs.Texts.{eol_place, overlay_place, place_by, tail_of_line}
use Rattle.nv_virt.specs.inside.Capped.{IsPlaceNear, capped_by}
use Rattle.nv_virt.proofs.places.place_of.Goals as goal

-- what is wanted of a place
abbrev Wanted : (most w t : ℕ) → List ℕ → At → ℕ → Option ℕ → ℕ → ℕ × ℕ → Type 0
Wanted most w t line at byte before count place =
    (ends : Option ℕ) (cells : ℕ) → ((tail_of_line w t line).0 < most → before ≡ capped_by w ends) → count ≡ min (w + 1) cells
    → IsPlaceNear most w place (place_by w t line at byte ends cells)

if_ok : {A E : Type 0} (P Q : A → Type 0) (r : Result A E) → ((x : A) → P x → Q x) → IfOk r P → IfOk r Q
if_ok P Q (Ok x) more is = more x is
if_ok P Q (Err e) more is = tt

module _ (most w t : ℕ) (line : List ℕ) (byte : ℕ) (before : Option ℕ) (count : ℕ) where
  by_kind : (at kind : At) → at ≡ kind → (place : ℕ × ℕ) → Wanted most w t line kind byte before count place → Wanted most w t line at byte before count place
  by_kind at kind is place wanted = subst (λ (a : At). Wanted most w t line a byte before count place) (sym is) wanted

right_near : (most w count cells : ℕ) (col : ℕ) → col ≡ w - count → count ≡ min (w + 1) cells → IsPlaceNear most w (0, col) (0, w - cells)
right_near most w count cells col is counted = record { row = omega arith; col = λ below. omega (arith, is, counted) }

pub returns-in-Eol : goal.returns-in-Eol
returns-in-Eol c =
    let l = c.args.line.now in
    if_ok _ _ c.eol_place.result
    (λ place is. by_kind l.most l.width l.tabstop l.bytes.now c.args.byte c.args.before (length c.args.shown.now) c.args.at Eol c.in-Eol.is place
    (λ ends cells ahead counted. is ends ahead))
    c.eol_place.ensures

pub returns-in-Overlay : goal.returns-in-Overlay
returns-in-Overlay c =
    let l = c.args.line.now in
    if_ok _ _ c.overlay_place.result
    (λ place is. by_kind l.most l.width l.tabstop l.bytes.now c.args.byte c.args.before (length c.args.shown.now) c.args.at Overlay c.in-Overlay.is place
    (λ ends cells ahead counted. is))
    c.overlay_place.ensures

pub returns-in-RightAlign : goal.returns-in-RightAlign
returns-in-RightAlign c =
    let l = c.args.line.now in
    by_kind l.most l.width l.tabstop l.bytes.now c.args.byte c.args.before (length c.args.shown.now) c.args.at RightAlign c.in-RightAlign.is (0, c.right_col.result)
    (λ ends cells ahead counted. right_near l.most l.width (length c.args.shown.now) cells c.right_col.result c.right_col.ensures counted)
