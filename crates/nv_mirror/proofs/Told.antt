-- What later values add.
use Rattle.std.proofs.Common.{◌≡◌, ℕ, ◌+◌, ℤ, List, [], ◌∷◌, ◌++◌, Option, Some, None, refl, sym, ap, ◌∙◌, append_assoc}
use Rattle.std.specs.Option.{option_or}
use Rattle.nv_value.specs.Content.{Tree}
use Rattle.nv_rpc.specs.Messages.{Sent}
use Rattle.nv_subs.specs.Mirrors.{Mirror, absent}
use Rattle.nv_mirror.specs.Listings.{Received, message, other_notice, neither, StopReason, received_in, messages_with, messages_in, stop_at, stop_by, stop_from, next_mirror, listed_by, listing_with, listing_from}
use Rattle.nv_mirror.specs.Laws.{StopsForGood, ListingGrows}
use Rattle.nv_mirror.specs.inside.Steps.{Known, stop_due, mirror_past, text_due}
use Rattle.nv_mirror.proofs.Values.{some_at, lists_on}

-- later values behind these change nothing, from here on
abbrev IsLast : ℤ → ℕ → Mirror → StopReason → List Tree → List Tree → Type 0
IsLast b n m stop ts later =
    (stop_from b n m (ts ++ later) ≡ Some stop) × (listing_from b m (messages_in (ts ++ later)) ≡ listing_from b m (messages_in ts))

abbrev IsLastIf : ℤ → ℕ → Mirror → StopReason → List Tree → List Tree → Type 0
IsLastIf b n m stop ts later = stop_from b n m ts ≡ Some stop → IsLast b n m stop ts later

last_message : (k : Known) (sent : Sent) (stop : StopReason) (ts later : List Tree) (o : Option StopReason) → stop_due k sent ≡ o → IsLastIf k.buffer (k.number + 1) (mirror_past k sent) stop ts later
    → option_or (stop_due k sent) (stop_from k.buffer (k.number + 1) (mirror_past k sent) ts) ≡ Some stop
    → (option_or (stop_due k sent) (stop_from k.buffer (k.number + 1) (mirror_past k sent) (ts ++ later)) ≡ Some stop)
    × (listing_from k.buffer k.mirror (sent ∷ messages_in (ts ++ later)) ≡ listing_from k.buffer k.mirror (sent ∷ messages_in ts))
last_message k sent stop ts later None q ih e =
    let next = mirror_past k sent in
    let r = ih (sym (ap (λ (x : Option StopReason). option_or x (stop_from k.buffer (k.number + 1) next ts)) q) ∙ e) in (
      ap (λ (x : Option StopReason). option_or x (stop_from k.buffer (k.number + 1) next (ts ++ later))) q ∙ r.0,
      lists_on k sent (messages_in (ts ++ later)) q ∙ ap (λ (l : List ℕ). text_due k sent ++ l) r.1 ∙ sym (lists_on k sent (messages_in ts) q),
    )
last_message k sent stop ts later (Some s) q ih e =
    let next = mirror_past k sent in
    let w = some_at k sent s q in (
      ap (λ (x : Option StopReason). option_or x (stop_from k.buffer (k.number + 1) next (ts ++ later))) q
          ∙ sym (ap (λ (x : Option StopReason). option_or x (stop_from k.buffer (k.number + 1) next ts)) q) ∙ e,
      ap (λ (x : Option StopReason). listing_with x (text_due k sent) (listing_from k.buffer next (messages_in (ts ++ later)))) w.1
          ∙ sym (ap (λ (x : Option StopReason). listing_with x (text_due k sent) (listing_from k.buffer next (messages_in ts))) w.1),
    )

last_with : (b : ℤ) (n : ℕ) (m : Mirror) (stop : StopReason) (r : Received) (ts later : List Tree) → ((x : Mirror) → IsLastIf b (n + 1) x stop ts later)
    → stop_by b n m r (λ x. stop_from b (n + 1) x ts) ≡ Some stop
    → (stop_by b n m r (λ x. stop_from b (n + 1) x (ts ++ later)) ≡ Some stop)
    × (listing_from b m (messages_with r (messages_in (ts ++ later))) ≡ listing_from b m (messages_with r (messages_in ts)))
last_with b n m stop neither ts later ih e = (e, refl)
last_with b n m stop other_notice ts later ih e = ih m e
last_with b n m stop (message sent) ts later ih e =
    let k : Known = record { buffer = b; number = n; mirror = m } in
    last_message k sent stop ts later (stop_at b n m sent) refl (ih (next_mirror b m sent)) e

last_from : (b : ℤ) (n : ℕ) (m : Mirror) (stop : StopReason) (ts later : List Tree) → IsLastIf b n m stop ts later
last_from b n m stop [] later e = cc
last_from b n m stop (t ∷ ts) later e = last_with b n m stop (received_in t) ts later (λ x. last_from b (n + 1) x stop ts later) e

pub stops_for_good : StopsForGood
stops_for_good buffer stop values later e = last_from buffer 0 absent stop values later e

-- more is listed behind this
abbrev ListsMore : List ℕ → List ℕ → Type 0
ListsMore all first = (more : List ℕ) × (all ≡ first ++ more)

more_with : (o : Option StopReason) (text all first : List ℕ) → ListsMore all first → ListsMore (listing_with o text all) (listing_with o text first)
more_with None text all first h = (h.0, ap (λ (l : List ℕ). text ++ l) h.1 ∙ sym (append_assoc text first h.0))
more_with (Some stop) text all first h = ([], refl)

more_by : (b : ℤ) (m : Mirror) (r : Received) (all first : List Sent) → ((x : Mirror) → ListsMore (listing_from b x all) (listing_from b x first))
    → ListsMore (listing_from b m (messages_with r all)) (listing_from b m (messages_with r first))
more_by b m neither all first ih = ([], refl)
more_by b m other_notice all first ih = ih m
more_by b m (message sent) all first ih =
    more_with (stop_at b 0 m sent) (listed_by b sent (next_mirror b m sent)) (listing_from b (next_mirror b m sent) all) (listing_from b (next_mirror b m sent) first)
    (ih (next_mirror b m sent))

more_from : (b : ℤ) (m : Mirror) (ts later : List Tree) → ListsMore (listing_from b m (messages_in (ts ++ later))) (listing_from b m (messages_in ts))
more_from b m [] later = (listing_from b m (messages_in later), refl)
more_from b m (t ∷ ts) later = more_by b m (received_in t) (messages_in (ts ++ later)) (messages_in ts) (λ x. more_from b x ts later)

pub listing_grows : ListingGrows
listing_grows buffer values later = more_from buffer absent values later
