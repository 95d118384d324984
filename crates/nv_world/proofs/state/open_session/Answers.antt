use Rattle.std.proofs.Common.{◌≡◌, ℕ, ◌+◌, List, [], ◌∷◌, ◌++◌, length, Option, Some, None, sym, ap, ◌∙◌, subst, refl, arith, length-append}
use Rattle.std.specs.List.{AllZip}
use Rattle.std.proofs.lemmas.Slice.Zip.{AllZip-long}
use Rattle.nv_history.specs.Events.{opened}
use Rattle.nv_history.specs.Sessions.{Session, fresh_session}
use Rattle.nv_history.specs.Worlds.{becomes, after_entry, opening_outcome}
use Rattle.nv_world.specs.declared.session.Session.{Session as Kept}
use Rattle.nv_world.specs.inside.Sessions.{IsSession}
use Rattle.nv_world.proofs.Stating.{AllZip-end, follows-end}
use Rattle.nv_core.specs.declared.effect.Effect.TheVariants.{Opened}
use Rattle.nv_world.proofs.Endings.{opened_live}
use Rattle.nv_world.proofs.Steppings.{ok_becomes, plain_is}
use Rattle.nv_world.proofs.state.open_session.Goals as goal

pub returns : goal.returns
returns c = λ w at.
    let stands = at.stands.state in
    let old = stands.sessions in
    let none : w.ended ≡ None = sym stands.ended ∙ c.in_default.is in
    let added : c.was_added.new.sessions.items ≡ c.args.state.now.sessions.items ++ c.in-Ok.session ∷ [] = c.was_added.ensures c.if-not-was_added.false in
    let many = AllZip-long (IsSession w.capacity) c.args.state.now.sessions.items w.sessions old.pairs in
    let is : IsSession w.capacity c.in-Ok.session fresh_session =
    subst (λ (n : ℕ). IsSession n c.in-Ok.session fresh_session) (sym at.stands.numbers.capacity_is) c.in-Ok.ensures in
    let pairs : AllZip (IsSession w.capacity) c.was_added.new.sessions.items (w.sessions ++ fresh_session ∷ []) =
    subst (λ (l : List Kept). AllZip (IsSession w.capacity) l (w.sessions ++ fresh_session ∷ [])) (sym added)
    (AllZip-end (IsSession w.capacity) c.args.state.now.sessions.items w.sessions c.in-Ok.session fresh_session old.pairs is) in
    let count : c.len-number.result ≡ length w.sessions + 1 =
    omega (arith, c.len-number.ensures, c.was_added.new.sessions.ok.0, ap (length {A = Kept}) added, length-append c.args.state.now.sessions.items (c.in-Ok.session ∷ []), many) in
    ok_becomes c.args.state.now c.finish.new.state c.args.numbers (Opened c.len-number.result) (after_entry (record w { sessions = w.sessions ++ fresh_session ∷ [] })) _ (opened c.len-number.result)
    (ap (λ (o : Option ℕ). opening_outcome o w) none
    ∙ ap (λ (k : ℕ). becomes (after_entry (record w { sessions = w.sessions ++ fresh_session ∷ [] })) (opened k)) (sym count))
    (plain_is (Opened c.len-number.result) refl)
    (c.in-Ok-finish.ensures (record w { sessions = w.sessions ++ fresh_session ∷ [] }) (record {
      stands = record {
        state = record {
          editor = stands.editor;
          sealed = stands.sealed;
          sessions = record { pairs = pairs; told = λ n s. old.told n s ∙ follows-end n w.sessions s };
          ended = stands.ended;
          stamp = stands.stamp;
        };
        numbers = record { capacity_is = at.stands.numbers.capacity_is; last_is = at.stands.numbers.last_is; entries_are = at.stands.numbers.entries_are; stamps = at.stands.numbers.stamps };
        settled = at.stands.settled;
      };
      live = opened_live w at.live;
      calm = at.calm;
      few = at.few;
    }))
