-- A connection: its opening, and then both halves of its session.
use Rattle.std.proofs.Common.{◌≡◌, ℕ, List, [], ◌∷◌, ◌++◌, Option, Some, refl, ap, sym, ◌∙◌, subst, append-nil, append_assoc}
use Rattle.nv_turn.specs.Passes.{IsSamePass}
use Rattle.nv_turn.proofs.Prefixes.{prefix_self, prefix_trans}
use Rattle.nv_io.specs.Faults.{Rose}
use Rattle.nv_io.specs.declared.lanes.Ended.{Ended}
use Rattle.nv_io.specs.declared.lanes.Ended.TheVariants.{ReadFault, WriteFault, NoMemory}
use Rattle.nv_history.specs.Events.{Entry}
use Rattle.nv_history.specs.Asking.{own}
use Rattle.nv_history.specs.Spoken.{AreBytesOf}
use Rattle.nv_core.specs.declared.start.Start.{Start}
use Rattle.nv_halves.specs.Passes.{WorldPass}
use Rattle.nv_core.specs.Starts.{world_of_run, out_of}
use Rattle.nv_halves.specs.Halves.{ReadsHalf, LeavesClosed, WritesHalf, WroteBy}
use Rattle.nv_halves.specs.declared.ends.ReaderEnd.{ReaderEnd}
use Rattle.nv_halves.specs.declared.ends.WriterEnd.{WriterEnd}
use Rattle.nv_halves.specs.declared.ends.WriterEnd.TheVariants as w
use Rattle.nv_halves.proofs.Onces.{same_then}
use Rattle.nv_io.specs.Words.{HalvesWords}
use Rattle.nv_session.specs.Openings.{opening_entry, OpensSession, OpensNone, IsWhyUnopened}
use Rattle.nv_session.specs.Joined.{end_of_halves}
use Rattle.nv_session.specs.Connections.{ConnectionEnds, traffic_of, ServesSession, ServesNone}
use Rattle.nv_session.specs.inside.Opened.{ServesHalves}
use Rattle.nv_session.proofs.Joining.{asks_so, ends_of_halves}

module _ {I S : Type 0} (t : HalvesWords I S) where
  pub halves_serve : (p q p2 q2 : WorldPass) (input input2 : I) (output output2 : S) (s : ℕ) (reader : ReaderEnd) (writer : WriterEnd) → q.start ≡ p.start → IsSamePass p p2 → IsSamePass q q2
      → ReadsHalf reader p p2 s (t.input input).taken (t.input input2).taken (t.input input).left (t.input input2).left → LeavesClosed reader p2 s
      → WritesHalf writer q q2 s (t.output output).taken (t.output output2).taken → (writer ≡ w.WriteFault → Rose (t.output output).faults (t.output output2).faults)
      → ServesHalves t p q p2 q2 input input2 output output2 s (end_of_halves reader writer)
  halves_serve p q p2 q2 input input2 output output2 s reader writer start one other r closes h rose =
      let a = asks_so reader p p2 s r.0 (t.input input2).left r.2 closes in
      let begun : q2.start ≡ p.start = other.start ∙ start in
      record {
        first = one;
        second = other;
        asked = a.asks.gained;
        taken = h.gained;
        gains_one = a.asks.gains;
        gains_other = h.gains;
        bytes = r.0;
        read = r.1;
        ends = λ history world runs begins also takes calls. ends_of_halves p.start s history world (traffic_of t r.0 input2 output output2) reader writer
            (a.says history world (subst (λ (b : Option Start). world_of_run b history ≡ Some world) (sym one.start) runs) begins (calls ∙ a.asks.calls_are))
            (subst (λ (b : Option Start). WroteBy writer world s (AreBytesOf (out_of b s history)) (t.output output).taken (t.output output2).taken) begun
            (h.wrote history world (subst (λ (b : Option Start). world_of_run b history ≡ Some world) (sym begun) runs) also takes))
            rose;
      }

  pub opened_serves : (p p1 q p2 q2 : WorldPass) (input input2 : I) (output output2 : S) (s : ℕ) (how : Ended) → OpensSession p p1 s → ServesHalves t p1 q p2 q2 input input2 output output2 s how
      → ServesSession t p q p2 q2 input input2 output output2 s how
  opened_serves p p1 q p2 q2 input input2 output output2 s how o h =
      let own_is : own p.number p2.seen ≡ own p.number p1.seen ++ h.asked = subst (λ (n : ℕ). own n p2.seen ≡ own n p1.seen ++ h.asked) o.same.number h.gains_one.gains.own_is in
      record {
        first = same_then p p1 p2 o.same h.first;
        second = h.second;
        opening = record {
          found = o.opening.found;
          begins = o.opening.begins;
          own_is = o.opening.own_is;
          number = o.opening.number;
          stands = prefix_trans (o.opening.found ++ opening_entry p.number ∷ []) p1.seen p2.seen o.opening.stands h.gains_one.gains.begins;
        };
        asked = h.asked;
        taken = h.taken;
        gains_one = record {
          own_is = own_is ∙ ap (λ (l : List Entry). l ++ h.asked) o.gains.own_is ∙ append_assoc (own p.number p.seen) (opening_entry p.number ∷ []) h.asked;
          begins = prefix_trans p.seen p1.seen p2.seen o.gains.begins h.gains_one.gains.begins;
        };
        each_asked = h.gains_one.each;
        gains_other = h.gains_other;
        bytes = h.bytes;
        read = h.read;
        ends = λ history world runs begins also takes calls. subst (λ (b : Option Start). ConnectionEnds how b s history world (traffic_of t h.bytes input2 output output2)) o.same.start
            (h.ends history world (subst (λ (b : Option Start). world_of_run b history ≡ Some world) (sym o.same.start) runs) begins also takes calls);
      }

  pub refused_serves : (p p1 q p2 q2 : WorldPass) (input input2 : I) (output output2 : S) (how how2 : Ended) → OpensNone p p1 how → p2 ≡ p1 → q2 ≡ q → input2 ≡ input → (t.output output2).taken ≡ (t.output output).taken → how2 ≡ how
      → ServesNone t p q p2 q2 input input2 output output2 how2
  refused_serves p p1 q p2 q2 input input2 output output2 how how2 o first second read sent same =
      let none : OpensNone p p2 how2 = subst (λ (e : Ended). OpensNone p p2 e) (sym same) (subst (λ (a : WorldPass). OpensNone p a how) (sym first) o) in
      record {
        first = none.same;
        gains_one = none.gains;
        second = second;
        read = read;
        sent = sent;
        why = none.why;
      }

-- memory was wanting before the opening
pub opens_nothing : (p : WorldPass) → OpensNone p p NoMemory
opens_nothing p = record {
  same = record { turn = refl; number = refl; numbers = refl; start = refl };
  gains = record { own_is = sym (append-nil (own p.number p.seen)); begins = prefix_self p.seen };
  why = tt;
}

-- a connection that had no session met no fault
pub no_read_fault : (p q : WorldPass) (how : Ended) → OpensNone p q how → how ≡ ReadFault → ⊥
no_read_fault p q how o e = subst (λ (h : Ended). IsWhyUnopened h p.start q.seen) e o.why

pub no_write_fault : (p q : WorldPass) (how : Ended) → OpensNone p q how → how ≡ WriteFault → ⊥
no_write_fault p q how o e = subst (λ (h : Ended). IsWhyUnopened h p.start q.seen) e o.why
