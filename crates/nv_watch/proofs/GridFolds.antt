-- What the clients of sessions show, step by step.
use Rattle.std.proofs.Common.{◌≡◌, ◌↔◌, refl, ap, sym, ◌∙◌, ℕ, zero, suc, ◌<◌, Bool, true, false, List, [], ◌∷◌, ◌++◌, append_assoc, Option, Some, None, is_some, subst, length, map, slice_set, arith}
use Rattle.std.specs.Prelude.{◌==◌, IsTrue, not, if◌then◌else◌}
use Rattle.std.proofs.lemmas.Bool.{false≢true}
use Rattle.std.proofs.lemmas.Bool.Decides.{nat_tests}
use Rattle.std.proofs.lemmas.List.{append-nil, get_or-set_same, get_or-set_other}
use Rattle.nv_value.specs.Content.{Tree}
use Rattle.nv_value.specs.View.{content}
use Rattle.nv_value.specs.declared.value.Value.{Value}
use Rattle.nv_linegrid.specs.declared.event.Redraw.{Redraw}
use Rattle.nv_linegrid.specs.Client.{Client, first_client}
use Rattle.nv_redraw.specs.Reading.{OneValueOneBatch}
use Rattle.nv_world.specs.Worlds.{WorldRecord}
use Rattle.nv_watch.specs.declared.grid_client.Taken.{Taken}
use Rattle.nv_watch.specs.declared.verdict.Verdict.{Verdict}
use Rattle.nv_watch.specs.declared.verdict.Verdict.TheVariants.{Yes}
use Rattle.nv_watch.specs.GridClients.{IsTellingOf, AreTellingsOf, client_by_tellings, client_if_all_fit, have_flush}
use Rattle.nv_watch.specs.Grids.{others_sent, others_seen, IsClientOf, ShowsRight, ShowsWorld, ShowsWrong}
use Rattle.nv_watch.specs.SentParts.{is_whole_sent}
use Rattle.nv_watch.specs.Verdicts.{Sight, verdict_with}
use Rattle.nv_watch.specs.inside.GridsFolded.{client_kept, AreClientsOf, HasFoldedIn, IsRightSent, StepFolds, TookAt}
use Rattle.nv_watch.specs.inside.GridsTaken.{TookValues}
use Rattle.nv_watch.proofs.GridClients.{by_both, tell_both, tellings_fit, took_none}
use Rattle.nv_watch.proofs.Verdicts.{none_broken, verdict_grows}

-- ---- a value tells one thing

one_telling : OneValueOneBatch → (t : Tree) (o p : Option (List Redraw)) → IsTellingOf t o → IsTellingOf t p → o ≡ p
one_telling one t None None a b = refl
one_telling one t None (Some es) a b = absurd (a es b.0 b.1)
one_telling one t (Some es) None a b = absurd (b es a.0 a.1)
one_telling one t (Some es) (Some fs) a b = ap Some (one es fs a.0 b.0 (a.1 ∙ sym b.1))

one_list : {A : Type 0} (a b : A) (xs ys : List A) → a ≡ b → xs ≡ ys → a ∷ xs ≡ b ∷ ys
one_list a b xs ys e f = ap (λ x. x ∷ xs) e ∙ ap (λ zs. b ∷ zs) f

pub one_tellings : OneValueOneBatch → (ts : List Tree) (os ps : List (Option (List Redraw))) → AreTellingsOf ts os → AreTellingsOf ts ps → os ≡ ps
one_tellings one [] [] [] a b = refl
one_tellings one [] [] (p ∷ ps) a b = absurd b
one_tellings one [] (o ∷ os) ps a b = absurd a
one_tellings one (t ∷ ts) [] ps a b = absurd a
one_tellings one (t ∷ ts) (o ∷ os) [] a b = absurd b
one_tellings one (t ∷ ts) (o ∷ os) (p ∷ ps) a b = one_list o p os ps (one_telling one t o p a.0 b.0) (one_tellings one ts os ps a.1 b.1)

-- so a session has one client
one_client : OneValueOneBatch → (s : ℕ) (seen : List Sight) (c d : Client) → IsClientOf s seen c → IsClientOf s seen d → c ≡ d
one_client one s seen c d a b =
    a.client_is ∙ ap (λ os. client_by_tellings first_client os) (one_tellings one (others_seen s seen) a.tellings b.tellings a.tell b.tell) ∙ sym b.client_is

-- ---- one step more

others_more : (s : ℕ) (seen : List Sight) (x : Sight)
    → others_seen s (seen ++ x ∷ []) ≡ others_seen s seen ++ (if x.step.session == s then others_sent x.step.sent else [])
others_more s [] x = append-nil (if x.step.session == s then others_sent x.step.sent else [])
others_more s (y ∷ seen) x =
    ap (λ (ts : List Tree). (if y.step.session == s then others_sent y.step.sent else []) ++ ts) (others_more s seen x)
    ∙ sym (append_assoc (if y.step.session == s then others_sent y.step.sent else []) (others_seen s seen) (if x.step.session == s then others_sent x.step.sent else []))

-- another session was sent nothing
client_stays : (s : ℕ) (seen : List Sight) (x : Sight) (c : Client) → (x.step.session == s) ≡ false → IsClientOf s seen c → IsClientOf s (seen ++ x ∷ []) c
client_stays s seen x c other is = record {
  tellings = is.tellings;
  tell =
      subst (λ (ts : List Tree). AreTellingsOf ts is.tellings)
      (sym (others_more s seen x ∙ ap (λ (b : Bool). others_seen s seen ++ (if b then others_sent x.step.sent else [])) other ∙ append-nil (others_seen s seen))) is.tell;
  client_is = is.client_is;
}

-- the session of the step took what it was sent
client_goes_on : (s : ℕ) (seen : List Sight) (x : Sight) (c d : Client) (os : List (Option (List Redraw))) → (x.step.session == s) ≡ true
    → IsClientOf s seen c → AreTellingsOf (others_sent x.step.sent) os → d ≡ client_by_tellings c os → IsClientOf s (seen ++ x ∷ []) d
client_goes_on s seen x c d os this is tell d_is = record {
  tellings = is.tellings ++ os;
  tell =
      subst (λ (ts : List Tree). AreTellingsOf ts (is.tellings ++ os))
      (sym (others_more s seen x ∙ ap (λ (b : Bool). others_seen s seen ++ (if b then others_sent x.step.sent else [])) this))
      (tell_both (others_seen s seen) (others_sent x.step.sent) is.tellings os is.tell tell);
  client_is = d_is ∙ ap (λ (k : Client). client_by_tellings k os) is.client_is ∙ sym (by_both first_client is.tellings os);
}

-- ---- the clients of all sessions

same_number : (a b : ℕ) → (a == b) ≡ true → a ≡ b
same_number a b e = grind (arith, nat_tests)

clients_go_on : (x : Sight) (old new : List Client) (taken : Taken) → TookAt (others_sent x.step.sent) x.step.session old new taken
    → (seen : List Sight) → AreClientsOf seen old → AreClientsOf (seen ++ x ∷ []) new
clients_go_on x old new taken took seen are s = by (x.step.session == s) refl
  where
    by : (b : Bool) → (x.step.session == s) ≡ b → IsClientOf s (seen ++ x ∷ []) (client_kept new s)
    by false e = subst (λ (c : Client). IsClientOf s (seen ++ x ∷ []) c) (sym (took.others s e)) (client_stays s seen x (client_kept old s) e (are s))
    by true e =
        subst (λ (n : ℕ). IsClientOf s (seen ++ x ∷ []) (client_kept new n)) (same_number x.step.session s e)
        (client_goes_on s seen x (client_kept old s) (client_kept new x.step.session) took.took.tellings e (are s) took.took.tell
        (took.took.after ∙ ap (λ (n : ℕ). client_by_tellings (client_kept old n) took.took.tellings) (same_number x.step.session s e)))

-- ---- whether the step shows what it should

fits_all : (o : Option Client) (d : Client) → is_some o ≡ true → ((k : Client) → o ≡ Some k → d ≡ k) → o ≡ Some d
fits_all None d e is = absurd (false≢true e)
fits_all (Some k) d e is = ap Some (sym (is k refl))

shows_right : (x : Sight) (old new : List Client) (taken : Taken) (whole : Bool) → whole ≡ is_whole_sent x.step.sent
    → TookAt (others_sent x.step.sent) x.step.session old new taken → (seen : List Sight) → AreClientsOf seen old
    → IsRightSent x.world (client_kept new x.step.session) whole taken → ShowsRight seen x
shows_right x old new taken whole whole_is took seen are right = record {
  whole = sym whole_is ∙ right.whole_is;
  tellings = took.took.tellings;
  tell = took.took.tell;
  earlier = client_kept old x.step.session;
  later = client_kept new x.step.session;
  client = are x.step.session;
  fits =
      fits_all (client_if_all_fit (client_kept old x.step.session) took.took.tellings) (client_kept new x.step.session) (sym took.took.fits ∙ right.fits)
      (λ k e. took.took.after ∙ tellings_fit (client_kept old x.step.session) k took.took.tellings e);
  shows = λ e. right.shows (took.took.flushed ∙ e);
}

is_right_sent : OneValueOneBatch → (x : Sight) (old new : List Client) (taken : Taken) (whole : Bool) → whole ≡ is_whole_sent x.step.sent
    → TookAt (others_sent x.step.sent) x.step.session old new taken → (seen : List Sight) → AreClientsOf seen old
    → ShowsRight seen x → IsRightSent x.world (client_kept new x.step.session) whole taken
is_right_sent one x old new taken whole whole_is took seen are right =
    let here : Client = client_kept old x.step.session in
    let tellings_are : right.tellings ≡ took.took.tellings = one_tellings one (others_sent x.step.sent) right.tellings took.took.tellings right.tell took.took.tell in
    let earlier_is : right.earlier ≡ here = one_client one x.step.session seen right.earlier here right.client (are x.step.session) in
    let all_fit : client_if_all_fit here took.took.tellings ≡ Some right.later =
    ap (λ os. client_if_all_fit here os) (sym tellings_are) ∙ ap (λ (c : Client). client_if_all_fit c right.tellings) (sym earlier_is) ∙ right.fits in
    let later_is : right.later ≡ client_kept new x.step.session = sym (tellings_fit here right.later took.took.tellings all_fit) ∙ sym took.took.after in
    record {
      whole_is = whole_is ∙ right.whole;
      fits = took.took.fits ∙ ap (λ (o : Option Client). is_some o) all_fit;
      shows =
          λ e. subst (λ (c : Client). ShowsWorld x.world c) later_is
          (right.shows (ap (λ os. have_flush os) tellings_are ∙ sym took.took.flushed ∙ e));
    }

pub step_folds : OneValueOneBatch → (x : Sight) (old new : List Client) (taken : Taken) (whole right : Bool) → whole ≡ is_whole_sent x.step.sent
    → TookAt (others_sent x.step.sent) x.step.session old new taken
    → (IsTrue right ↔ IsRightSent x.world (client_kept new x.step.session) whole taken) → StepFolds old new x right
step_folds one x old new taken whole right whole_is took told = record {
  clients = clients_go_on x old new taken took;
  is_right = λ seen are e. shows_right x old new taken whole whole_is took seen are (told.0 e);
  is_wrong = λ seen are e h. false≢true (sym e ∙ told.1 (is_right_sent one x old new taken whole whole_is took seen are h));
}

-- where nothing but messages was sent no client takes anything
took_at_none : (session : ℕ) (clients : List Client) → TookAt [] session clients clients (record { fits = true; flushed = false })
took_at_none session clients = record { others = λ s e. refl; took = took_none (client_kept clients session) }

right_by_whole : (k : WorldRecord) (c : Client) (whole : Bool) → IsTrue whole ↔ IsRightSent k c whole (record { fits = true; flushed = false })
right_by_whole k c whole = (λ e. record { whole_is = e; fits = refl; shows = λ f. absurd (false≢true f) }, λ r. r.whole_is)

pub step_of_messages : OneValueOneBatch → (x : Sight) (clients : List Client) (whole : Bool) → whole ≡ is_whole_sent x.step.sent
    → others_sent x.step.sent ≡ [] → StepFolds clients clients x whole
step_of_messages one x clients whole whole_is none =
    step_folds one x clients clients (record { fits = true; flushed = false }) whole whole whole_is
    (subst (λ (ts : List Tree). TookAt ts x.step.session clients clients (record { fits = true; flushed = false })) (sym none) (took_at_none x.step.session clients))
    (right_by_whole x.world (client_kept clients x.step.session) whole)

pub none_others : (vs : List Value) (ts : List Tree) → length vs ≡ 0 → map content vs ≡ ts → ts ≡ []
none_others [] ts e is = sym is
none_others (v ∷ vs) ts e is = absurd (omega (arith, e))

-- ---- the list of clients

pub none_at_end : (xs : List Client) (s : ℕ) → client_kept (xs ++ first_client ∷ []) s ≡ client_kept xs s
none_at_end [] zero = refl
none_at_end [] (suc s) = refl
none_at_end (x ∷ xs) zero = refl
none_at_end (x ∷ xs) (suc s) = none_at_end xs s

pub took_at : (ts : List Tree) (session : ℕ) (old grown : List Client) (c : Client) (taken : Taken)
    → ((s : ℕ) → client_kept grown s ≡ client_kept old s) → session < length grown
    → TookValues ts (client_kept grown session) c taken → TookAt ts session old (slice_set grown session c) taken
took_at ts session old grown c taken same there took = record {
  others = λ s e. get_or-set_other grown session s c first_client (λ (i : s ≡ session). false≢true (sym e ∙ same_here s i)) ∙ same s;
  took =
      subst (λ (k : Client). TookValues ts (client_kept old session) k taken) (sym (get_or-set_same grown session c first_client there))
      (subst (λ (k : Client). TookValues ts k c taken) (same session) took);
}
  where
    same_here : (s : ℕ) → s ≡ session → (session == s) ≡ true
    same_here s i = grind (arith, nat_tests)

-- ---- what was seen

no_client : (s : ℕ) → client_kept [] s ≡ first_client
no_client zero = refl
no_client (suc s) = refl

pub none_folded : (clients : List Client) → clients ≡ [] → HasFoldedIn clients Yes []
none_folded clients none = record {
  are = λ s. record { tellings = []; tell = tt; client_is = ap (λ (xs : List Client). client_kept xs s) none ∙ no_client s };
  verdict = none_broken ShowsWrong;
}

not_wrong : (right : Bool) → not right ≡ true → right ≡ false
not_wrong true e = sym e
not_wrong false e = refl

not_right : (right : Bool) → not right ≡ false → right ≡ true
not_right true e = refl
not_right false e = sym e

pub folded_more : (old new : List Client) (v : Verdict) (seen : List Sight) (x : Sight) (right : Bool) → StepFolds old new x right
    → HasFoldedIn old v seen → HasFoldedIn new (verdict_with v x.step.at (not right)) (seen ++ x ∷ [])
folded_more old new v seen x right folds had = record {
  are = folds.clients seen had.are;
  verdict =
      verdict_grows ShowsWrong seen x v (not right) (λ e. folds.is_wrong seen had.are (not_wrong right e))
      (λ e wrong. wrong (folds.is_right seen had.are (not_right right e))) had.verdict;
}
