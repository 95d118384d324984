-- What the head of a value says of its reading.
use Rattle.std.proofs.Common.{◌≡◌, ℕ, ◌+◌, ◌-◌, ◌<◌, ◌≤◌, zero, suc, List, ◌∷◌, ◌++◌, length, take, drop, ap, ◌∙◌, subst, arith, length-append}
use Rattle.std.proofs.lemmas.List.{length-take-le, drop_at}
use Rattle.std.proofs.lemmas.Bool.Decides.{nat_tests}
use Rattle.nv_value.specs.Content.{Tree, Trees}
use Rattle.nv_msgpack.specs.Spelling.{Size, Raw, Many, Form, unused, alone, raw, many, form, width, number_in, extra, raw_value, values, many_value}
use Rattle.nv_msgpack.specs.Reading.{Reading, whole, more, Inside, none, some, map_reading, after, items_at, raw_at, many_at, read_by, value_at}
use Rattle.nv_msgpack.proofs.Lengths.{number_in-stays, number_in-take}
use Rattle.nv_msgpack.proofs.Complete.{many_at-inside}
use Rattle.nv_stream.specs.inside.Scanning.{head_of}
use Rattle.nv_stream.specs.declared.scan.Head.TheVariants.{Bytes, Values}

-- bytes that haven't all come

raw_waits : (r : Raw) (s : Size) (room : ℕ) (rest : List ℕ) (least : ℕ) → 1 + width s + (number_in s rest + extra r) ≡ least → least ≤ room → 1 + length rest < least → raw_at r s room rest ≡ more
raw_waits r s room rest least e h l =
    subst (λ (n : ℕ). n ≤ room → 1 + length rest < n → raw_at r s room rest ≡ more) e (λ h l. grind (arith, nat_tests)) h l

bytes_wait_by : (i : Inside) (f : Form) (room : ℕ) (rest : List ℕ) (least : ℕ) → head_of f rest ≡ Bytes least → least ≤ room → 1 + length rest < least → read_by i f room rest ≡ more
bytes_wait_by i unused room rest least e h l = cc
bytes_wait_by i (alone t) room rest least e h l = let n : 1 ≡ least = cc in absurd (omega arith)
bytes_wait_by i (raw r s) room rest least e h l = let n : 1 + width s + (number_in s rest + extra r) ≡ least = cc in raw_waits r s room rest least n h l
bytes_wait_by i (many m s) room rest least e h l = cc

pub bytes_wait : (depth room b : ℕ) (rest : List ℕ) (least : ℕ) → head_of (form b) rest ≡ Bytes least → least ≤ room → 1 + length rest < least → value_at depth room (b ∷ rest) ≡ more
unfolding value_at
bytes_wait zero room b rest least e h l = bytes_wait_by none (form b) room rest least e h l
bytes_wait (suc d) room b rest least e h l = bytes_wait_by (some (items_at (value_at d))) (form b) room rest least e h l

-- bytes that have all come, whatever follows them

-- the length of the front of a text that has the length
number_of_front : (s : Size) (n : ℕ) (rest tail : List ℕ) → width s ≤ n → n ≤ length rest → number_in s (take n rest ++ tail) ≡ number_in s rest
number_of_front s n rest tail h l =
    let size : length (take n rest) ≡ n = length-take-le n rest l in
    number_in-stays s (take n rest) tail (omega arith) ∙ number_in-take s n rest h (omega arith)

raw_whole : (r : Raw) (s : Size) (room n : ℕ) (rest : List ℕ) → number_in s rest ≡ n → 1 + width s + (n + extra r) ≤ room → width s + (n + extra r) ≤ length rest
    → (t : Tree) × (raw_at r s room rest ≡ whole t (1 + width s + (n + extra r)))
raw_whole r s room n rest e h l =
    subst (λ (x : ℕ). 1 + width s + (x + extra r) ≤ room → width s + (x + extra r) ≤ length rest → (t : Tree) × (raw_at r s room rest ≡ whole t (1 + width s + (x + extra r)))) e
    (λ h l. (raw_value r (take (number_in s rest + extra r) (drop (width s) rest)), grind (arith, nat_tests))) h l

raw_taken : (r : Raw) (s : Size) (room : ℕ) (rest tail : List ℕ) (least : ℕ) → 1 + width s + (number_in s rest + extra r) ≡ least → least ≤ room → least ≤ 1 + length rest
    → (t : Tree) × (raw_at r s room (take (least - 1) rest ++ tail) ≡ whole t least)
raw_taken r s room rest tail least e h l =
    let front = take (least - 1) rest in
    let size : length (take (least - 1) rest) ≡ least - 1 = length-take-le (least - 1) rest (omega arith) in
    let long : length (take (least - 1) rest ++ tail) ≡ length (take (least - 1) rest) + length tail = length-append (take (least - 1) rest) tail in
    let n : number_in s (take (least - 1) rest ++ tail) ≡ number_in s rest = number_of_front s (least - 1) rest tail (omega arith) (omega arith) in
    let w = raw_whole r s room (number_in s rest) (take (least - 1) rest ++ tail) n (omega arith) (omega arith) in
    (w.0, w.1 ∙ ap (λ (k : ℕ). whole w.0 k) e)

bytes_taken_by : (i : Inside) (f : Form) (room : ℕ) (rest tail : List ℕ) (least : ℕ) → head_of f rest ≡ Bytes least → least ≤ room → least ≤ 1 + length rest
    → (1 ≤ least) × (t : Tree) × (read_by i f room (take (least - 1) rest ++ tail) ≡ whole t least)
bytes_taken_by i unused room rest tail least e h l = cc
bytes_taken_by i (alone t) room rest tail least e h l = let n : 1 ≡ least = cc in (omega arith, t, ap (λ (k : ℕ). whole t k) n)
bytes_taken_by i (raw r s) room rest tail least e h l =
    let n : 1 + width s + (number_in s rest + extra r) ≡ least = cc in
    let w = raw_taken r s room rest tail least n h l in
    (omega arith, w.0, w.1)
bytes_taken_by i (many m s) room rest tail least e h l = cc

pub bytes_taken : (depth room b : ℕ) (rest tail : List ℕ) (least : ℕ) → head_of (form b) rest ≡ Bytes least → least ≤ room → least ≤ 1 + length rest
    → (1 ≤ least) × (t : Tree) × (value_at depth room (b ∷ (take (least - 1) rest ++ tail)) ≡ whole t least)
unfolding value_at
bytes_taken zero room b rest tail least e h l = bytes_taken_by none (form b) room rest tail least e h l
bytes_taken (suc d) room b rest tail least e h l = bytes_taken_by (some (items_at (value_at d))) (form b) room rest tail least e h l

-- a list or map whose length hasn't come

many_waits : (inside : ℕ → ℕ → List ℕ → Reading Trees) (m : Many) (s : Size) (room n : ℕ) (rest : List ℕ) → values m (number_in s rest) ≡ n → 1 + width s + n ≤ room → length rest < width s
    → many_at inside m s room rest ≡ more
many_waits inside m s room n rest e h l =
    subst (λ (x : ℕ). 1 + width s + x ≤ room → many_at inside m s room rest ≡ more) e (λ h. grind (arith, nat_tests)) h

values_wait_by : (inside : ℕ → ℕ → List ℕ → Reading Trees) (f : Form) (room : ℕ) (rest : List ℕ) (head n : ℕ) → head_of f rest ≡ Values head n → head + n ≤ room → 1 + length rest < head
    → read_by (some inside) f room rest ≡ more
values_wait_by inside unused room rest head n e h l = cc
values_wait_by inside (alone t) room rest head n e h l = cc
values_wait_by inside (raw r s) room rest head n e h l = cc
values_wait_by inside (many m s) room rest head n e h l =
    let a : 1 + width s ≡ head = cc in
    let b : values m (number_in s rest) ≡ n = cc in
    many_waits inside m s room n rest b (omega arith) (omega arith)

pub values_wait : (d room b : ℕ) (rest : List ℕ) (head n : ℕ) → head_of (form b) rest ≡ Values head n → head + n ≤ room → 1 + length rest < head → value_at (suc d) room (b ∷ rest) ≡ more
unfolding value_at
values_wait d room b rest head n e h l = values_wait_by (items_at (value_at d)) (form b) room rest head n e h l

-- a list or map whose length has come, whatever follows it

-- the values inside are read as these
abbrev pub Opens : (ℕ → ℕ → List ℕ → Reading Trees) → Reading Tree → ℕ → ℕ → ℕ → List ℕ → Type 0
Opens inside reading head n room tail = (m : Many) × (reading ≡ after head (map_reading (many_value m) (inside n (room - head) tail)))

many_opens : (inside : ℕ → ℕ → List ℕ → Reading Trees) (m : Many) (s : Size) (room : ℕ) (rest tail : List ℕ) (head n : ℕ) → 1 + width s ≡ head → values m (number_in s rest) ≡ n → head + n ≤ room → head ≤ 1 + length rest
    → many_at inside m s room (take (head - 1) rest ++ tail) ≡ after head (map_reading (many_value m) (inside n (room - head) tail))
many_opens inside m s room rest tail head n a b h l =
    let size : length (take (head - 1) rest) ≡ head - 1 = length-take-le (head - 1) rest (omega arith) in
    let long : length (take (head - 1) rest ++ tail) ≡ length (take (head - 1) rest) + length tail = length-append (take (head - 1) rest) tail in
    let number : number_in s (take (head - 1) rest ++ tail) ≡ number_in s rest = number_of_front s (head - 1) rest tail (omega arith) (omega arith) in
    let counted : values m (number_in s (take (head - 1) rest ++ tail)) ≡ n = ap (λ (x : ℕ). values m x) number ∙ b in
    let behind : drop (width s) (take (head - 1) rest ++ tail) ≡ tail = drop_at (take (head - 1) rest) tail (width s) (omega arith) in
    many_at-inside inside m s room (take (head - 1) rest ++ tail) n counted (omega arith) (omega arith)
    ∙ ap (λ (l : List ℕ). after (1 + width s) (map_reading (many_value m) (inside n (room - (1 + width s)) l))) behind
    ∙ ap (λ (k : ℕ). after k (map_reading (many_value m) (inside n (room - k) tail))) a

values_open_by : (inside : ℕ → ℕ → List ℕ → Reading Trees) (f : Form) (room : ℕ) (rest tail : List ℕ) (head n : ℕ) → head_of f rest ≡ Values head n → head + n ≤ room → head ≤ 1 + length rest
    → (1 ≤ head) × Opens inside (read_by (some inside) f room (take (head - 1) rest ++ tail)) head n room tail
values_open_by inside unused room rest tail head n e h l = cc
values_open_by inside (alone t) room rest tail head n e h l = cc
values_open_by inside (raw r s) room rest tail head n e h l = cc
values_open_by inside (many m s) room rest tail head n e h l =
    let a : 1 + width s ≡ head = cc in
    let b : values m (number_in s rest) ≡ n = cc in
    (omega arith, (m, many_opens inside m s room rest tail head n a b h l))

pub values_open : (d room b : ℕ) (rest tail : List ℕ) (head n : ℕ) → head_of (form b) rest ≡ Values head n → head + n ≤ room → head ≤ 1 + length rest
    → (1 ≤ head) × Opens (items_at (value_at d)) (value_at (suc d) room (b ∷ (take (head - 1) rest ++ tail))) head n room tail
unfolding value_at
values_open d room b rest tail head n e h l = values_open_by (items_at (value_at d)) (form b) room rest tail head n e h l
