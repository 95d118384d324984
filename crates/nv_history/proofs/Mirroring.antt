-- What a client makes of the messages about a buffer: each front of them mirrors a moment.
use Rattle.std.proofs.Common.{◌≡◌, ℕ, ℤ, pos, ◌-◌, ◌≤◌, List, [], ◌∷◌, ◌++◌, length, take, refl, ap, sym, ◌∙◌, subst, arith, length-append, Bool, true, false, true≢false, Option, Some, None}
use Rattle.std.specs.Prelude.{option_and_then}
use Rattle.std.proofs.lemmas.List.{take-append-le}
use Rattle.std.proofs.lemmas.Option.{none-some, same_Some}
use Rattle.nv_places.specs.Flat.{lines_of}
use Rattle.nv_rpc.specs.Messages.{Sent}
use Rattle.nv_model.specs.Buffers.{Splice}
use Rattle.nv_subs.specs.Mirrors.{Mirror, absent, mirror_after, mirror_after_all, mirror_of}
use Rattle.nv_dispatch.specs.Telling.{text_then, tick_then}
use Rattle.nv_history.specs.Texts.{last_tick, last_tick_of, sends_lines, sends_lines_of, IsMirrored}

-- a mirror that has heard of a changedtick last is that of its moment
pub record IsOfMoment (splices : List Splice) (c : Mirror) (sent : Bool) (last : Option ℤ) : Type 0 where
  pub known : (t : ℤ) → last ≡ Some t
      → (k : ℕ) × (t ≡ pos k) × (k ≤ tick_then splices) × IsMirrored (lines_of (text_then (take (k - 2) splices))) t sent (Some c)

-- so it is after each front of the messages, and each message fits
abbrev pub AllOfMoments : ℤ → List Splice → Mirror → Bool → Option ℤ → List Sent → Type 0
AllOfMoments n splices c sent last [] = IsOfMoment splices c sent last
AllOfMoments n splices c sent last (m ∷ ms) =
    IsOfMoment splices c sent last × (d : Mirror) × (mirror_after n c m ≡ Some d)
    × AllOfMoments n splices d (sends_lines n sent m) (last_tick n last m) ms

first_of : (n : ℤ) (ss : List Splice) (c : Mirror) (sent : Bool) (last : Option ℤ) (ms : List Sent) → AllOfMoments n ss c sent last ms → IsOfMoment ss c sent last
first_of n ss c sent last [] h = h
first_of n ss c sent last (m ∷ ms) h = h.0

-- the fold of a front
pub record FrontFolds (n : ℤ) (ss : List Splice) (c : Mirror) (sent : Bool) (last : Option ℤ) (front : List Sent) : Type 0 where
  pub client : Mirror
  pub folds : mirror_after_all n c front ≡ Some client
  pub moment : IsOfMoment ss client (sends_lines_of n sent front) (last_tick_of n last front)

pub front_folds : (n : ℤ) (ss : List Splice) (c : Mirror) (sent : Bool) (last : Option ℤ) (front back : List Sent)
    → AllOfMoments n ss c sent last (front ++ back) → FrontFolds n ss c sent last front
front_folds n ss c sent last [] back h = record { client = c; folds = refl; moment = first_of n ss c sent last back h }
front_folds n ss c sent last (m ∷ ms) back h =
    let rest = front_folds n ss h.1 (sends_lines n sent m) (last_tick n last m) ms back h.3 in record {
      client = rest.client;
      folds = ap (option_and_then (λ (x : Mirror). mirror_after_all n x ms)) h.2 ∙ rest.folds;
      moment = rest.moment;
    }

pub all_push : (n : ℤ) (ss : List Splice) (c d e : Mirror) (sent : Bool) (last : Option ℤ) (ms : List Sent) (m : Sent)
    → AllOfMoments n ss c sent last ms → mirror_after_all n c ms ≡ Some d → mirror_after n d m ≡ Some e
    → IsOfMoment ss e (sends_lines_of n sent (ms ++ m ∷ [])) (last_tick_of n last (ms ++ m ∷ []))
    → AllOfMoments n ss c sent last (ms ++ m ∷ [])
all_push n ss c d e sent last [] m h f g s = (h, e, ap (λ (x : Mirror). mirror_after n x m) (same_Some c d f) ∙ g, s)
all_push n ss c d e sent last (x ∷ xs) m h f g s = (
  h.0,
  h.1,
  h.2,
  all_push n ss h.1 d e (sends_lines n sent x) (last_tick n last x) xs m h.3
      (sym (ap (option_and_then (λ (y : Mirror). mirror_after_all n y xs)) h.2) ∙ f) g s,
)

pub moment_more : (ss more : List Splice) (c : Mirror) (sent : Bool) (last : Option ℤ) → IsOfMoment ss c sent last → IsOfMoment (ss ++ more) c sent last
moment_more ss more c sent last h = record {
  known = λ t e.
      let k = h.known t e in
      let low : k.0 - 2 ≤ length ss = omega (arith, k.2) in (
        k.0,
        k.1,
        omega (arith, k.2, length-append ss more),
        subst (λ (l : List Splice). IsMirrored (lines_of (text_then l)) t sent (Some c)) (sym (take-append-le (k.0 - 2) ss more low)) k.3,
      );
}

pub all_more : (n : ℤ) (ss more : List Splice) (c : Mirror) (sent : Bool) (last : Option ℤ) (ms : List Sent)
    → AllOfMoments n ss c sent last ms → AllOfMoments n (ss ++ more) c sent last ms
all_more n ss more c sent last [] h = moment_more ss more c sent last h
all_more n ss more c sent last (m ∷ ms) h =
    (moment_more ss more c sent last h.0, h.1, h.2, all_more n ss more h.1 (sends_lines n sent m) (last_tick n last m) ms h.3)

-- ---- one more message
pub sends-push : (n : ℤ) (b : Bool) (ms : List Sent) (m : Sent) → sends_lines_of n b (ms ++ m ∷ []) ≡ sends_lines n (sends_lines_of n b ms) m
sends-push n b [] m = refl
sends-push n b (x ∷ xs) m = sends-push n (sends_lines n b x) xs m

pub last-push : (n : ℤ) (t : Option ℤ) (ms : List Sent) (m : Sent) → last_tick_of n t (ms ++ m ∷ []) ≡ last_tick n (last_tick_of n t ms) m
last-push n t [] m = refl
last-push n t (x ∷ xs) m = last-push n (last_tick n t x) xs m

folds_next : (n : ℤ) (d e : Mirror) (xs : List Sent) (m : Sent) (o : Option Mirror)
    → ((y : Mirror) → mirror_after_all n y xs ≡ Some d → mirror_after_all n y (xs ++ m ∷ []) ≡ Some e)
    → option_and_then (λ (y : Mirror). mirror_after_all n y xs) o ≡ Some d
    → option_and_then (λ (y : Mirror). mirror_after_all n y (xs ++ m ∷ [])) o ≡ Some e
folds_next n d e xs m None rest h = absurd (none-some d h)
folds_next n d e xs m (Some y) rest h = rest y h

pub folds-push : (n : ℤ) (c d e : Mirror) (ms : List Sent) (m : Sent) → mirror_after_all n c ms ≡ Some d → mirror_after n d m ≡ Some e
    → mirror_after_all n c (ms ++ m ∷ []) ≡ Some e
folds-push n c d e [] m f g =
    ap (option_and_then (λ (y : Mirror). mirror_after_all n y [])) (ap (λ (x : Mirror). mirror_after n x m) (same_Some c d f) ∙ g)
folds-push n c d e (x ∷ xs) m f g = folds_next n d e xs m (mirror_after n c x) (λ y h. folds-push n y d e xs m h g) f

-- what a session was told of a buffer, where it is attached to it or not
pub record Tells (n : ℤ) (splices : List Splice) (following : Bool) (ms : List Sent) : Type 0 where
  pub all : AllOfMoments n splices absent false None ms
  pub client : Mirror
  pub folds : mirror_of n ms ≡ Some client
  pub now : following ≡ true → IsMirrored (lines_of (text_then splices)) (pos (tick_then splices)) (sends_lines_of n false ms) (Some client)
  pub moment : IsOfMoment splices client (sends_lines_of n false ms) (last_tick_of n None ms)

pub not_told : {A : Type 0} → false ≡ true → A
not_told e = absurd (true≢false (sym e))

pub tells_nothing : (n : ℤ) (ss : List Splice) → Tells n ss false []
tells_nothing n ss =
    let none : IsOfMoment ss absent false None = record { known = λ t e. absurd (none-some t e) } in record {
      all = none;
      client = absent;
      folds = refl;
      now = λ e. not_told e;
      moment = none;
    }

pub tells_push : (n : ℤ) (ss : List Splice) (f g : Bool) (ms : List Sent) (m : Sent) (t : Tells n ss f ms) (e : Mirror)
    → mirror_after n t.client m ≡ Some e
    → IsOfMoment ss e (sends_lines n (sends_lines_of n false ms) m) (last_tick n (last_tick_of n None ms) m)
    → (g ≡ true → IsMirrored (lines_of (text_then ss)) (pos (tick_then ss)) (sends_lines n (sends_lines_of n false ms) m) (Some e))
    → Tells n ss g (ms ++ m ∷ [])
tells_push n ss f g ms m t e after moment now =
    let later : IsOfMoment ss e (sends_lines_of n false (ms ++ m ∷ [])) (last_tick_of n None (ms ++ m ∷ [])) =
    subst (λ (b : Bool). IsOfMoment ss e b (last_tick_of n None (ms ++ m ∷ []))) (sym (sends-push n false ms m))
    (subst (λ (o : Option ℤ). IsOfMoment ss e (sends_lines n (sends_lines_of n false ms) m) o) (sym (last-push n None ms m)) moment) in
    record {
      all = all_push n ss absent t.client e false None ms m t.all t.folds after later;
      client = e;
      folds = folds-push n absent t.client e ms m t.folds after;
      now = λ h. subst (λ (b : Bool). IsMirrored (lines_of (text_then ss)) (pos (tick_then ss)) b (Some e)) (sym (sends-push n false ms m)) (now h);
      moment = later;
    }

-- a session that is no longer attached, with more splices
abbrev pub tells_more : (n : ℤ) (ss more : List Splice) (f : Bool) (ms : List Sent) → Tells n ss f ms → Tells n (ss ++ more) false ms
tells_more n ss more f ms t = record {
  all = all_more n ss more absent false None ms t.all;
  client = t.client;
  folds = t.folds;
  now = λ e. not_told e;
  moment = moment_more ss more t.client (sends_lines_of n false ms) (last_tick_of n None ms) t.moment;
}

abbrev pub tells_left : (n : ℤ) (ss : List Splice) (f : Bool) (ms : List Sent) → Tells n ss f ms → Tells n ss false ms
tells_left n ss f ms t = record {
  all = t.all;
  client = t.client;
  folds = t.folds;
  now = λ e. not_told e;
  moment = t.moment;
}
