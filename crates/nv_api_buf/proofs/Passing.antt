-- Lemmas on splices that pass no limit.
use Rattle.std.proofs.Common.{◌≡◌, ℕ, ℤ, pos, ◌+◌, ◌-◌, ◌^◌, ◌<◌, ◌≤◌, ◌+ℤ◌, Bool, true, false, ◌||◌, List, length, All, sym, ap, subst, ◌∙◌, arith}
use Rattle.std.proofs.lemmas.Bool.Decides.{nat_tests}
use Rattle.std.specs.Prelude.{◌≤ℤ◌, nat_lt, int_lt}
use Rattle.std.specs.List.{list_any}
use Rattle.nv_places.specs.Flat.{flat, lines_of}
use Rattle.nv_buffer.specs.Content.{Content}
use Rattle.nv_buffer.specs.Splices.{IsNarrowLine}
use Rattle.nv_model.specs.Answering.{event_of_splice}
use Rattle.nv_model.specs.Buffers.{Splice, text_after}
use Rattle.nv_model.specs.Seen.{SeenBuffer}
use Rattle.nv_model.specs.declared.parts.Limits.{Limits}
use Rattle.nv_api_buf.specs.Texts.{event_passes}
use Rattle.nv_api_buf.specs.inside.Parts.{is_longer}
use Rattle.nv_api_buf.proofs.Long.{short-narrow}
use Rattle.nv_api_buf.proofs.Splices.{PutsLines, lines_left, put_in_place, length-splice}

-- the three limits by tests of their own
pub passes-is : (limits : Limits) (b : SeenBuffer) (s : Splice) (from to kept many : ℕ) (new : List (List ℕ)) (count long tick : Bool)
    → PutsLines b.lines s from to new → kept ≡ length b.lines - (to - from) → many ≡ length new
    → count ≡ nat_lt limits.lines (kept + many) → long ≡ list_any (is_longer limits.line_bytes) new → tick ≡ int_lt limits.ticks (pos (b.tick + 1))
    → (count || long || tick) ≡ event_passes limits (length (lines_of (text_after (flat b.lines) s))) (event_of_splice b s)
passes-is limits b s from to kept many new count long tick puts k m c l t =
    let left = lines_left b.lines s from to new puts in
    let put = put_in_place b.lines s from to new puts in
    let sum : kept + many ≡ length (lines_of (text_after (flat b.lines) s)) =
    omega (arith, length-splice b.lines new from to puts.order puts.within, ap (length {A = List ℕ}) left) in
    let first : count ≡ nat_lt limits.lines (length (lines_of (text_after (flat b.lines) s))) = c ∙ ap (nat_lt limits.lines) sum in
    let second : long ≡ list_any (is_longer limits.line_bytes) (event_of_splice b s).edit.lines = l ∙ ap (list_any (is_longer limits.line_bytes)) (sym put) in
    λ i. first i || second i || t i

-- what holds where no limit is passed
pub record Free (lines : List (List ℕ)) (from to : ℕ) (new : List (List ℕ)) : Type 0 where
  pub count : from + length new + length lines < to + 2 ^ 32
  pub columns : All IsNarrowLine new

pub free : (most bytes : ℕ) (lines new : List (List ℕ)) (from to kept many : ℕ) (count long tick : Bool) → most < 2 ^ 32 → bytes < 2 ^ 32 → from ≤ to → to ≤ length lines
    → kept ≡ length lines - (to - from) → many ≡ length new
    → count ≡ nat_lt most (kept + many) → long ≡ list_any (is_longer bytes) new → (count || long || tick) ≡ false → Free lines from to new
free most bytes lines new from to kept many false false tick few short order within k m c l e =
    let less : kept + many ≤ most = grind (arith, nat_tests) in
    record { count = omega arith; columns = short-narrow bytes new short (sym l) }
free most bytes lines new from to kept many true long tick few short order within k m c l e = absurd (cc)
free most bytes lines new from to kept many false true tick few short order within k m c l e = absurd (cc)

-- a tick that may rise so far is that of the buffer that was found
pub moved_there : (most : ℤ) (found there : Content) (splices cost : ℕ) → found ≡ there → splices ≡ cost → (found.tick +ℤ pos splices) ≤ℤ most
    → (there.tick +ℤ pos cost) ≤ℤ most
moved_there most found there splices cost same count fits = subst (λ (q : Content × ℕ). (q.0.tick +ℤ pos q.1) ≤ℤ most) (λ i. (same i, count i)) fits
