use Rattle.std.proofs.Common.{◌≡◌, ℕ, List, [], ◌∷◌, take, length, sym, subst, option_map}
use Rattle.std.proofs.lemmas.List.{length-take-le}
use Rattle.nv_io.specs.Memory.{Cutting, MemReading, cut_by}
use Rattle.nv_io.specs.Streams.{AddsReads}
use Rattle.nv_io.proofs.SizeLemmas.{reads_add, reads_stay}
use Rattle.nv_io.proofs.memory.MemSourceSource.read.Goals as goal

pub returns-then-call-clause-reads : goal.returns-then-call-clause-reads
returns-then-call-clause-reads g c =
    subst (λ (s : MemReading). AddsReads s.reads (option_map (λ sizes. cut_by sizes c.self.inside.pieces.taken) c.add.new.self) ([] ∷ [])) c.self.view_is
    (reads_stay c.self.inside.sizes c.add.new.self c.self.inside.pieces.taken c.self.invariant c.add.ensures)

pub returns-then-is_empty-clause-reads : goal.returns-then-is_empty-clause-reads
returns-then-is_empty-clause-reads g c =
    subst (λ (s : MemReading). AddsReads s.reads (option_map (λ sizes. cut_by sizes c.self.inside.pieces.taken) c.add-then-is_empty.new.self) ([] ∷ [])) c.self.view_is
    (reads_stay c.self.inside.sizes c.add-then-is_empty.new.self c.self.inside.pieces.taken c.self.invariant c.add-then-is_empty.ensures)

pub returns-clause-reads : goal.returns-clause-reads
returns-clause-reads g c =
    let old = c.self.inside.pieces in
    let n = c.next-count.result in
    let piece : List ℕ = take n old.left in
    let size : n ≡ length piece = sym (length-take-le n old.left c.next-count.ensures.count.2) in
    let was = option_map (λ sizes. cut_by sizes old.taken) c.self.inside.sizes in
    let added = reads_add c.self.inside.sizes c.add-2.new.self n old.taken piece c.self.invariant c.add-2.ensures size in
    let moved = subst (λ (p : Cutting). AddsReads was (option_map (λ sizes. cut_by sizes p.taken) c.add-2.new.self) (piece ∷ [])) (sym c.next-count.ensures.after) added in
    subst (λ (s : MemReading). AddsReads s.reads (option_map (λ sizes. cut_by sizes c.next-count.new.self.taken) c.add-2.new.self) (take n c.next-count.new.into ∷ [])) c.self.view_is
    (subst (λ (p : List ℕ). AddsReads was (option_map (λ sizes. cut_by sizes c.next-count.new.self.taken) c.add-2.new.self) (p ∷ [])) (sym c.next-count.ensures.bytes) moved)
