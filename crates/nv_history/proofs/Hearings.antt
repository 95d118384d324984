-- What a session was told goes on mirroring the buffers' moments.
use Rattle.std.proofs.Common.{◌≡◌, ℕ, ℤ, List, [], ◌∷◌, ◌++◌, length, refl, ap, sym, ◌∙◌, subst, append_assoc, append-nil, Bool, true, false, Option, Some, None}
use Rattle.std.specs.Prelude.{◌==◌, ◌||◌, IfSome}
use Rattle.std.specs.Ordering.{int_eq}
use Rattle.std.proofs.lemmas.Option.{none-some}
use Rattle.nv_rpc.specs.Messages.{Sent, detach_event}
use Rattle.nv_buffer.specs.declared.buffer.Spliced.{Spliced}
use Rattle.nv_model.specs.Buffers.{Splice}
use Rattle.nv_model.specs.Answers.{Fact, attached, detached, edited, deleted, quit}
use Rattle.nv_dispatch.specs.Telling.{Past, IsSpliceTold, IsAttachTold, ToldOfLive, FactTells, FactsTell}
use Rattle.nv_history.specs.Events.{Cause, quit_at}
use Rattle.nv_history.specs.Sessions.{Session, fresh_session, follows, with_following, without_following, session_closed_by, session_emptied, session_with_message, session_told, session_told_if, session_joined, session_parted, session_parted_if, open_session_hears, unless_closed, session_hears, session_hears_all, session_replied, session_quit, session_quit_if, session_after_call, first_message, splice_message, has_quit}
use Rattle.nv_history.proofs.Followings.{among_of, among-apart, among-left}
use Rattle.nv_history.proofs.Mirroring.{Tells, tells_nothing, tells_more, tells_left}
use Rattle.nv_history.proofs.Tellings.{IsAside, aside_detach, aside_first, aside_splice, tells_aside, tells_detached, tells_first, tells_splice}

-- of two tests one holds
among_first : (b c : Bool) → b ≡ true → (b || c) ≡ true
among_first b c e = ap (λ (x : Bool). x || c) e

among_second : (b c : Bool) → b ≡ false → (b || c) ≡ c
among_second b c e = ap (λ (x : Bool). x || c) e

-- the buffer of a handle, and what a session took before
module _ (n : ℤ) (o : List Sent) where
  -- what a session was told of the buffer is right, and a closed one is attached to nothing
  pub record Holds (ss : List Splice) (x : Session) : Type 0 where
    pub tells : Tells n ss (follows n x) (o ++ x.waiting)
    pub quiet : (cause : Cause) → x.closed ≡ Some cause → x.following ≡ []

  open_quiet : (x : Session) → x.closed ≡ None → (cause : Cause) → x.closed ≡ Some cause → x.following ≡ []
  open_quiet x e cause f = absurd (none-some cause (sym e ∙ f))

  -- one message more, for which there is room or not
  holds_message : (b : Bool) (at : ℕ) (m : Sent) (x : Session) (ss : List Splice) → x.closed ≡ None
      → Tells n ss false (o ++ x.waiting) → Tells n ss (follows n x) ((o ++ x.waiting) ++ m ∷ [])
      → Holds ss (session_with_message b at m x)
  holds_message true at m x ss e t u = record { tells = t; quiet = λ cause f. refl }
  holds_message false at m x ss e t u = record {
    tells = subst (λ (ms : List Sent). Tells n ss (follows n x) ms) (append_assoc o x.waiting (m ∷ [])) u;
    quiet = λ cause f. absurd (none-some cause (sym e ∙ f));
  }

  same_holds : (ss later : List Splice) (x : Session) → later ≡ ss → Holds ss x → Holds later x
  same_holds ss later x e h = subst (λ (l : List Splice). Holds l x) (sym e) h

  -- ---- each fact
  joined_now : (k : ℤ) (past : Past) (at capacity tick : ℕ) (whole : Option (List (List ℕ))) (x : Session) → x.closed ≡ None → follows k x ≡ false
      → (b : Bool) → int_eq k n ≡ b → ToldOfLive b past past (IsAttachTold past tick whole past)
      → Holds past.splices x → Holds past.splices (session_told at capacity (first_message k tick whole) (with_following k x))
  joined_now k past at capacity tick whole x e f true same told h =
      let apart : follows n x ≡ false = among_of k n x.following false same f in
      let there : follows n (with_following k x) ≡ true = among_first (int_eq k n) (follows n x) same in
      let out : Tells n past.splices false (o ++ x.waiting) = tells_left n past.splices (follows n x) (o ++ x.waiting) h.tells in
      holds_message (length x.waiting == capacity) at (first_message k tick whole) (with_following k x) past.splices e out
      (subst (λ (y : Bool). Tells n past.splices y ((o ++ x.waiting) ++ first_message k tick whole ∷ [])) (sym there)
      (tells_first n k past.splices (o ++ x.waiting) tick whole same told.1.tick_is told.1.lines_are out))
  joined_now k past at capacity tick whole x e f false same told h =
      let there : follows n (with_following k x) ≡ follows n x = among_second (int_eq k n) (follows n x) same in
      holds_message (length x.waiting == capacity) at (first_message k tick whole) (with_following k x) past.splices e
      (tells_left n past.splices (follows n x) (o ++ x.waiting) h.tells)
      (subst (λ (y : Bool). Tells n past.splices y ((o ++ x.waiting) ++ first_message k tick whole ∷ [])) (sym there)
      (tells_aside n past.splices (follows n x) (o ++ x.waiting) (first_message k tick whole) (aside_first n k tick whole same) h.tells))

  -- attaching leaves the past
  attach_stays : (b : Bool) (past later : Past) (tick : ℕ) (whole : Option (List (List ℕ))) → ToldOfLive b past later (IsAttachTold past tick whole later) → later ≡ past
  attach_stays true past later tick whole h = h.1.stays
  attach_stays false past later tick whole h = h

  joined_is : (k : ℤ) (past later : Past) (at capacity tick : ℕ) (whole : Option (List (List ℕ))) (x : Session) → x.closed ≡ None
      → (own there : Bool) → follows k x ≡ there → ToldOfLive (int_eq k n) past past (IsAttachTold past tick whole past)
      → Holds past.splices x → Holds past.splices (session_joined own there at capacity k (first_message k tick whole) x)
  joined_is k past later at capacity tick whole x e true false f told h = joined_now k past at capacity tick whole x e f (int_eq k n) refl told h
  joined_is k past later at capacity tick whole x e true true f told h = h
  joined_is k past later at capacity tick whole x e false there f told h = h

  parted_now : (k : ℤ) (ss : List Splice) (at capacity : ℕ) (x : Session) → x.closed ≡ None → (b : Bool) → int_eq k n ≡ b
      → Holds ss x → Holds ss (session_told at capacity (detach_event k) (without_following k x))
  parted_now k ss at capacity x e true same h =
      let gone : follows n (without_following k x) ≡ false = among-left k n x.following same in
      holds_message (length x.waiting == capacity) at (detach_event k) (without_following k x) ss e
      (tells_left n ss (follows n x) (o ++ x.waiting) h.tells)
      (subst (λ (y : Bool). Tells n ss y ((o ++ x.waiting) ++ detach_event k ∷ [])) (sym gone)
      (tells_detached n k ss (follows n x) (o ++ x.waiting) same h.tells))
  parted_now k ss at capacity x e false same h =
      let there : follows n (without_following k x) ≡ follows n x = among-apart k n x.following same in
      holds_message (length x.waiting == capacity) at (detach_event k) (without_following k x) ss e
      (tells_left n ss (follows n x) (o ++ x.waiting) h.tells)
      (subst (λ (y : Bool). Tells n ss y ((o ++ x.waiting) ++ detach_event k ∷ [])) (sym there)
      (tells_aside n ss (follows n x) (o ++ x.waiting) (detach_event k) (aside_detach n k same) h.tells))

  parted_is : (k : ℤ) (ss : List Splice) (at capacity : ℕ) (x : Session) → x.closed ≡ None → (there : Bool)
      → Holds ss x → Holds ss (session_parted there at capacity k x)
  parted_is k ss at capacity x e true h = parted_now k ss at capacity x e (int_eq k n) refl h
  parted_is k ss at capacity x e false h = h

  parted_own : (k : ℤ) (ss : List Splice) (at capacity : ℕ) (x : Session) → x.closed ≡ None → (own : Bool)
      → Holds ss x → Holds ss (session_parted_if own (follows k x) at capacity k x)
  parted_own k ss at capacity x e true h = parted_is k ss at capacity x e (follows k x) h
  parted_own k ss at capacity x e false h = h

  -- a splice of the buffer, and of another one
  edited_here : (k : ℤ) (ss : List Splice) (at capacity : ℕ) (s : Splice) (told : Spliced) (x : Session) → x.closed ≡ None → int_eq k n ≡ true
      → (past later : Past) → past.splices ≡ ss → (is : IsSpliceTold past told later) → (there : Bool) → follows k x ≡ there
      → Holds past.splices x → Holds (past.splices ++ is.made ∷ []) (session_told_if there at capacity (splice_message k told) x)
  edited_here k ss at capacity s told x e same past later p is true f h =
      let there : follows n x ≡ true = among_of k n x.following true same f in
      holds_message (length x.waiting == capacity) at (splice_message k told) x (past.splices ++ is.made ∷ []) e
      (tells_more n past.splices (is.made ∷ []) (follows n x) (o ++ x.waiting) h.tells)
      (subst (λ (y : Bool). Tells n (past.splices ++ is.made ∷ []) y ((o ++ x.waiting) ++ splice_message k told ∷ [])) (sym there)
      (tells_splice n k past.splices is.made told (o ++ x.waiting) same is.told is.fits (subst (λ (y : Bool). Tells n past.splices y (o ++ x.waiting)) there h.tells)))
  edited_here k ss at capacity s told x e same past later p is false f h =
      let apart : follows n x ≡ false = among_of k n x.following false same f in record {
        tells = subst (λ (y : Bool). Tells n (past.splices ++ is.made ∷ []) y (o ++ x.waiting)) (sym apart)
            (tells_more n past.splices (is.made ∷ []) (follows n x) (o ++ x.waiting) h.tells);
        quiet = h.quiet;
      }

  edited_there : (k : ℤ) (ss : List Splice) (at capacity : ℕ) (told : Spliced) (x : Session) → x.closed ≡ None → int_eq k n ≡ false → (there : Bool)
      → Holds ss x → Holds ss (session_told_if there at capacity (splice_message k told) x)
  edited_there k ss at capacity told x e apart true h =
      holds_message (length x.waiting == capacity) at (splice_message k told) x ss e
      (tells_left n ss (follows n x) (o ++ x.waiting) h.tells)
      (tells_aside n ss (follows n x) (o ++ x.waiting) (splice_message k told) (aside_splice n k told apart) h.tells)
  edited_there k ss at capacity told x e apart false h = h

  edited_is : (k : ℤ) (past later : Past) (at capacity : ℕ) (told : Spliced) (x : Session) → x.closed ≡ None → (b : Bool) → int_eq k n ≡ b
      → ToldOfLive b past later (IsSpliceTold past told later)
      → Holds past.splices x → Holds later.splices (session_told_if (follows k x) at capacity (splice_message k told) x)
  edited_is k past later at capacity told x e true same is h =
      same_holds (past.splices ++ is.1.made ∷ []) later.splices (session_told_if (follows k x) at capacity (splice_message k told) x) (ap (λ (p : Past). p.splices) is.1.becomes)
      (edited_here k past.splices at capacity is.1.made told x e same past later refl is.1 (follows k x) refl h)
  edited_is k past later at capacity told x e false same is h =
      same_holds past.splices later.splices (session_told_if (follows k x) at capacity (splice_message k told) x) (ap (λ (p : Past). p.splices) is)
      (edited_there k past.splices at capacity told x e same (follows k x) h)

  -- detaching and deleting leave the splices
  detach_stays : (b : Bool) (past later : Past) → ToldOfLive b past later (later ≡ past) → later.splices ≡ past.splices
  detach_stays true past later h = ap (λ (p : Past). p.splices) h.1
  detach_stays false past later h = ap (λ (p : Past). p.splices) h

  delete_stays : (b : Bool) (past later : Past) → ToldOfLive b past later (later ≡ record past { is_deleted = true }) → later.splices ≡ past.splices
  delete_stays true past later h = ap (λ (p : Past). p.splices) h.1
  delete_stays false past later h = ap (λ (p : Past). p.splices) h

  open_hears : (past later : Past) (at capacity : ℕ) (own : Bool) (fact : Fact) (x : Session) → x.closed ≡ None → FactTells n fact past later
      → Holds past.splices x → Holds later.splices (open_session_hears at capacity own fact x)
  open_hears past later at capacity own (attached k tick whole) x e told h =
      let stays : later ≡ past = attach_stays (int_eq k n) past later tick whole told in
      same_holds past.splices later.splices (session_joined own (follows k x) at capacity k (first_message k tick whole) x) (ap (λ (p : Past). p.splices) stays)
      (joined_is k past later at capacity tick whole x e own (follows k x) refl
      (subst (λ (p : Past). ToldOfLive (int_eq k n) past p (IsAttachTold past tick whole p)) stays told) h)
  open_hears past later at capacity own (detached k) x e told h =
      same_holds past.splices later.splices (session_parted_if own (follows k x) at capacity k x) (detach_stays (int_eq k n) past later told)
      (parted_own k past.splices at capacity x e own h)
  open_hears past later at capacity own (edited k told) x e is h = edited_is k past later at capacity told x e (int_eq k n) refl is h
  open_hears past later at capacity own (deleted k) x e told h =
      same_holds past.splices later.splices (session_parted (follows k x) at capacity k x) (delete_stays (int_eq k n) past later told)
      (parted_is k past.splices at capacity x e (follows k x) h)
  open_hears past later at capacity own quit x e told h = same_holds past.splices later.splices x (ap (λ (p : Past). p.splices) told) h

  -- ---- a session that is closed hears nothing
  -- the splices after a fact
  pub record Grows (ss later : List Splice) : Type 0 where
    pub more : List Splice
    pub grown : later ≡ ss ++ more

  grows_none : (ss later : List Splice) → later ≡ ss → Grows ss later
  grows_none ss later e = record { more = []; grown = e ∙ sym (append-nil ss) }

  grows_one : (b : Bool) (past later : Past) (told : Spliced) → ToldOfLive b past later (IsSpliceTold past told later) → Grows past.splices later.splices
  grows_one true past later told h = record { more = h.1.made ∷ []; grown = ap (λ (p : Past). p.splices) h.1.becomes }
  grows_one false past later told h = grows_none past.splices later.splices (ap (λ (p : Past). p.splices) h)

  pub grows : (past later : Past) (fact : Fact) → FactTells n fact past later → Grows past.splices later.splices
  grows past later (attached k tick whole) h = grows_none past.splices later.splices (ap (λ (p : Past). p.splices) (attach_stays (int_eq k n) past later tick whole h))
  grows past later (detached k) h = grows_none past.splices later.splices (detach_stays (int_eq k n) past later h)
  grows past later (edited k told) h = grows_one (int_eq k n) past later told h
  grows past later (deleted k) h = grows_none past.splices later.splices (delete_stays (int_eq k n) past later h)
  grows past later quit h = grows_none past.splices later.splices (ap (λ (p : Past). p.splices) h)

  closed_holds : (ss later : List Splice) (x : Session) → Grows ss later → x.following ≡ [] → Holds ss x → Holds later x
  closed_holds ss later x g e h =
      let apart : follows n x ≡ false = ap (λ (ks : List ℤ). follows n (record x { following = ks })) e in
      same_holds (ss ++ g.more) later x g.grown (record {
        tells = subst (λ (y : Bool). Tells n (ss ++ g.more) y (o ++ x.waiting)) (sym apart) (tells_more n ss g.more (follows n x) (o ++ x.waiting) h.tells);
        quiet = h.quiet;
      })

  hears_by : (past later : Past) (at capacity : ℕ) (own : Bool) (fact : Fact) (x : Session) (c : Option Cause) → x.closed ≡ c → FactTells n fact past later
      → Holds past.splices x → Holds later.splices (unless_closed c (open_session_hears at capacity own fact x) x)
  hears_by past later at capacity own fact x None e told h = open_hears past later at capacity own fact x e told h
  hears_by past later at capacity own fact x (Some cause) e told h = closed_holds past.splices later.splices x (grows past later fact told) (h.quiet cause e) h

  hears_all : (past later : Past) (at capacity : ℕ) (own : Bool) (facts : List Fact) (x : Session) → FactsTell n facts past later
      → Holds past.splices x → Holds later.splices (session_hears_all at capacity own facts x)
  hears_all past later at capacity own [] x told h = same_holds past.splices later.splices x (ap (λ (p : Past). p.splices) told) h
  hears_all past later at capacity own (fact ∷ facts) x told h =
      hears_all told.0 later at capacity own facts (session_hears at capacity own fact x) told.2
      (hears_by past told.0 at capacity own fact x x.closed refl told.1 h)

  -- ---- what answers its own call, and the end
  replied_by : (ss : List Splice) (at capacity : ℕ) (m : Sent) (x : Session) → IsAside n m → (c : Option Cause) → x.closed ≡ c
      → Holds ss x → Holds ss (unless_closed c (session_told at capacity m x) x)
  replied_by ss at capacity m x is None e h =
      holds_message (length x.waiting == capacity) at m x ss e (tells_left n ss (follows n x) (o ++ x.waiting) h.tells)
      (tells_aside n ss (follows n x) (o ++ x.waiting) m is h.tells)
  replied_by ss at capacity m x is (Some cause) e h = h

  replied_is : (ss : List Splice) (at capacity : ℕ) (answer : Option Sent) (x : Session) → IfSome answer (λ m. IsAside n m) → (own : Bool)
      → Holds ss x → Holds ss (session_replied own at capacity answer x)
  replied_is ss at capacity (Some m) x is true h = replied_by ss at capacity m x is x.closed refl h
  replied_is ss at capacity None x is true h = h
  replied_is ss at capacity answer x is false h = h

  pub closed_by_holds : (ss : List Splice) (cause : Cause) (x : Session) → Holds ss x → Holds ss (session_closed_by cause x)
  closed_by_holds ss cause x h = record { tells = tells_left n ss (follows n x) (o ++ x.waiting) h.tells; quiet = λ c f. refl }

  quit_by : (ss : List Splice) (at : ℕ) (x : Session) (c : Option Cause) → Holds ss x → Holds ss (unless_closed c (session_closed_by (quit_at at) x) x)
  quit_by ss at x None h = closed_by_holds ss (quit_at at) x h
  quit_by ss at x (Some cause) h = h

  pub quit_holds : (ss : List Splice) (at : ℕ) (x : Session) → Holds ss x → Holds ss (session_quit at x)
  quit_holds ss at x h = quit_by ss at x x.closed h

  quit_if_holds : (ss : List Splice) (b : Bool) (at : ℕ) (x : Session) → Holds ss x → Holds ss (session_quit_if b at x)
  quit_if_holds ss true at x h = quit_holds ss at x h
  quit_if_holds ss false at x h = h

  -- a session after a call
  pub call_holds : (past later : Past) (at capacity : ℕ) (own : Bool) (facts : List Fact) (answer : Option Sent) (x : Session) → FactsTell n facts past later
      → IfSome answer (λ m. IsAside n m) → Holds past.splices x → Holds later.splices (session_after_call at capacity own facts answer x)
  call_holds past later at capacity own facts answer x told is h =
      quit_if_holds later.splices (has_quit facts) at (session_replied own at capacity answer (session_hears_all at capacity own facts x))
      (replied_is later.splices at capacity answer (session_hears_all at capacity own facts x) is own (hears_all past later at capacity own facts x told h))

-- a session once what waits was taken, and a fresh one
pub taken_holds : (n : ℤ) (o : List Sent) (ss : List Splice) (stamp : ℕ) (x : Session) → Holds n o ss x → Holds n (o ++ x.waiting) ss (session_emptied stamp x)
taken_holds n o ss stamp x h = record {
  tells = subst (λ (ms : List Sent). Tells n ss (follows n x) ms) (sym (append-nil (o ++ x.waiting))) h.tells;
  quiet = h.quiet;
}

pub fresh_holds : (n : ℤ) (ss : List Splice) → Holds n [] ss fresh_session
fresh_holds n ss = record { tells = tells_nothing n ss; quiet = λ cause e. refl }
