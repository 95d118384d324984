-- The heads of the shortest spellings: each begins with a first byte of its form, and tells its length.
use Rattle.std.proofs.Common.{◌≡◌, ℕ, ◌+◌, ◌^◌, ◌<◌, ◌⊎◌, inl, inr, List, [], ◌∷◌, length, refl, sym, ap, ◌∙◌, arith}
use Rattle.std.specs.Int.{w16, w32, w64, to_be_bytes}
use Rattle.std.proofs.lemmas.Bool.{cases_lt}
use Rattle.std.proofs.lemmas.Bool.Decides.{nat_tests, eqb_tells}
use Rattle.nv_msgpack.specs.Spelling.{Size, fixed, field, of_text, of_bin, of_ext, float, of_list, of_map, Form, raw, many, form, middle, big_endian, width, number_in}
use Rattle.nv_msgpack.specs.Shortest.{text_head, bin_head, ext_head, float_head, list_head, map_head}

-- The bytes are a first byte of the form that kind gives for a size, and behind it the length n.
pub record IsHead (kind : Size → Form) (n : ℕ) (head : List ℕ) : Type 0 where
  pub first : ℕ
  pub size : Size
  pub rest : List ℕ
  pub is : head ≡ first ∷ rest
  pub form_is : form first ≡ kind size
  pub width_is : length rest ≡ width size
  pub number_is : number_in size rest ≡ n

pub bytes_2 : (n : ℕ) → n < 0x10000 → big_endian 2 (to_be_bytes w16 n) ≡ n
unfolding big_endian
bytes_2 n h = omega arith

pub bytes_4 : (n : ℕ) → n < 0x100000000 → big_endian 4 (to_be_bytes w32 n) ≡ n
unfolding big_endian
bytes_4 n h = omega arith

pub bytes_8 : (n : ℕ) → n < 2 ^ 64 → big_endian 8 (to_be_bytes w64 n) ≡ n
unfolding big_endian
bytes_8 n h = omega arith

pub byte_1 : (n : ℕ) → big_endian 1 (n ∷ []) ≡ n
unfolding big_endian
byte_1 n = omega arith

form_of_text : (n : ℕ) → n < 0x20 → form (0xa0 + n) ≡ raw of_text (fixed n)
unfolding form
form_of_text n h = grind (arith, nat_tests)

form_of_list : (n : ℕ) → n < 0x10 → form (0x90 + n) ≡ many of_list (fixed n)
unfolding form
form_of_list n h = grind (arith, nat_tests)

form_of_map : (n : ℕ) → n < 0x10 → form (0x80 + n) ≡ many of_map (fixed n)
unfolding form
form_of_map n h = grind (arith, nat_tests)

-- A length of one, two or four bytes behind its first byte.
in_one : (kind : Size → Form) (b n : ℕ) → form b ≡ kind (field 1) → IsHead kind n (b ∷ n ∷ [])
in_one kind b n f = record { first = b; size = field 1; rest = n ∷ []; is = refl; form_is = f; width_is = refl; number_is = byte_1 n }

in_two : (kind : Size → Form) (b n : ℕ) → form b ≡ kind (field 2) → n < 0x10000 → IsHead kind n (b ∷ to_be_bytes w16 n)
in_two kind b n f h = record { first = b; size = field 2; rest = to_be_bytes w16 n; is = refl; form_is = f; width_is = refl; number_is = bytes_2 n h }

in_four : (kind : Size → Form) (b n : ℕ) → form b ≡ kind (field 4) → n < 0x100000000 → IsHead kind n (b ∷ to_be_bytes w32 n)
in_four kind b n f h = record { first = b; size = field 4; rest = to_be_bytes w32 n; is = refl; form_is = f; width_is = refl; number_is = bytes_4 n h }

in_itself : (kind : Size → Form) (b n : ℕ) → form b ≡ kind (fixed n) → IsHead kind n (b ∷ [])
in_itself kind b n f = record { first = b; size = fixed n; rest = []; is = refl; form_is = f; width_is = refl; number_is = refl }

same_head : (kind : Size → Form) (n : ℕ) (head other : List ℕ) → head ≡ other → IsHead kind n other → IsHead kind n head
same_head kind n head other e h = record { first = h.first; size = h.size; rest = h.rest; is = e ∙ h.is; form_is = h.form_is; width_is = h.width_is; number_is = h.number_is }

pub text_head_is : (n : ℕ) → n < 0x100000000 → IsHead (raw of_text) n (text_head n)
unfolding text_head form middle
text_head_is n h = elim (cases_lt n 0x20) [
  | inl a ↦ same_head (raw of_text) n _ ((0xa0 + n) ∷ []) (grind (arith, nat_tests)) (in_itself (raw of_text) (0xa0 + n) n (form_of_text n a))
  | inr a ↦ elim (cases_lt n 0x100) [
    | inl b ↦ same_head (raw of_text) n _ (0xd9 ∷ n ∷ []) (grind (arith, nat_tests)) (in_one (raw of_text) 0xd9 n refl)
    | inr b ↦ elim (cases_lt n 0x10000) [
      | inl c ↦ same_head (raw of_text) n _ (0xda ∷ to_be_bytes w16 n) (grind (arith, nat_tests)) (in_two (raw of_text) 0xda n refl c)
      | inr c ↦ same_head (raw of_text) n _ (0xdb ∷ to_be_bytes w32 n) (grind (arith, nat_tests)) (in_four (raw of_text) 0xdb n refl h)
    ]
  ]
]

pub bin_head_is : (n : ℕ) → n < 0x100000000 → IsHead (raw of_bin) n (bin_head n)
unfolding bin_head form middle
bin_head_is n h = elim (cases_lt n 0x100) [
  | inl b ↦ same_head (raw of_bin) n _ (0xc4 ∷ n ∷ []) (grind (arith, nat_tests)) (in_one (raw of_bin) 0xc4 n refl)
  | inr b ↦ elim (cases_lt n 0x10000) [
    | inl c ↦ same_head (raw of_bin) n _ (0xc5 ∷ to_be_bytes w16 n) (grind (arith, nat_tests)) (in_two (raw of_bin) 0xc5 n refl c)
    | inr c ↦ same_head (raw of_bin) n _ (0xc6 ∷ to_be_bytes w32 n) (grind (arith, nat_tests)) (in_four (raw of_bin) 0xc6 n refl h)
  ]
]

pub list_head_is : (n : ℕ) → n < 0x100000000 → IsHead (many of_list) n (list_head n)
unfolding list_head form middle
list_head_is n h = elim (cases_lt n 0x10) [
  | inl a ↦ same_head (many of_list) n _ ((0x90 + n) ∷ []) (grind (arith, nat_tests)) (in_itself (many of_list) (0x90 + n) n (form_of_list n a))
  | inr b ↦ elim (cases_lt n 0x10000) [
    | inl c ↦ same_head (many of_list) n _ (0xdc ∷ to_be_bytes w16 n) (grind (arith, nat_tests)) (in_two (many of_list) 0xdc n refl c)
    | inr c ↦ same_head (many of_list) n _ (0xdd ∷ to_be_bytes w32 n) (grind (arith, nat_tests)) (in_four (many of_list) 0xdd n refl h)
  ]
]

pub map_head_is : (n : ℕ) → n < 0x100000000 → IsHead (many of_map) n (map_head n)
unfolding map_head form middle
map_head_is n h = elim (cases_lt n 0x10) [
  | inl a ↦ same_head (many of_map) n _ ((0x80 + n) ∷ []) (grind (arith, nat_tests)) (in_itself (many of_map) (0x80 + n) n (form_of_map n a))
  | inr b ↦ elim (cases_lt n 0x10000) [
    | inl c ↦ same_head (many of_map) n _ (0xde ∷ to_be_bytes w16 n) (grind (arith, nat_tests)) (in_two (many of_map) 0xde n refl c)
    | inr c ↦ same_head (many of_map) n _ (0xdf ∷ to_be_bytes w32 n) (grind (arith, nat_tests)) (in_four (many of_map) 0xdf n refl h)
  ]
]

-- A length of the first byte alone, for each of the few lengths that have one.
fixext : (b n m : ℕ) → form b ≡ raw of_ext (fixed m) → n ≡ m → IsHead (raw of_ext) n (b ∷ [])
fixext b n m f e = in_itself (raw of_ext) b n (f ∙ ap (λ (k : ℕ). raw of_ext (fixed k)) (sym e))

pub ext_head_is : (n : ℕ) → n < 0x100000000 → IsHead (raw of_ext) n (ext_head n)
unfolding ext_head form middle
ext_head_is n h = elim (eqb_tells n 1) [
  | inl a ↦ same_head (raw of_ext) n _ (0xd4 ∷ []) (grind (arith, nat_tests)) (fixext 0xd4 n 1 refl a.1)
  | inr a ↦ elim (eqb_tells n 2) [
    | inl b ↦ same_head (raw of_ext) n _ (0xd5 ∷ []) (grind (arith, nat_tests)) (fixext 0xd5 n 2 refl b.1)
    | inr b ↦ elim (eqb_tells n 4) [
      | inl c ↦ same_head (raw of_ext) n _ (0xd6 ∷ []) (grind (arith, nat_tests)) (fixext 0xd6 n 4 refl c.1)
      | inr c ↦ elim (eqb_tells n 8) [
        | inl d ↦ same_head (raw of_ext) n _ (0xd7 ∷ []) (grind (arith, nat_tests)) (fixext 0xd7 n 8 refl d.1)
        | inr d ↦ elim (eqb_tells n 16) [
          | inl e ↦ same_head (raw of_ext) n _ (0xd8 ∷ []) (grind (arith, nat_tests)) (fixext 0xd8 n 16 refl e.1)
          | inr e ↦ elim (cases_lt n 0x100) [
            | inl i ↦ same_head (raw of_ext) n _ (0xc7 ∷ n ∷ []) (grind (arith, nat_tests)) (in_one (raw of_ext) 0xc7 n refl)
            | inr i ↦ elim (cases_lt n 0x10000) [
              | inl j ↦ same_head (raw of_ext) n _ (0xc8 ∷ to_be_bytes w16 n) (grind (arith, nat_tests)) (in_two (raw of_ext) 0xc8 n refl j)
              | inr j ↦ same_head (raw of_ext) n _ (0xc9 ∷ to_be_bytes w32 n) (grind (arith, nat_tests)) (in_four (raw of_ext) 0xc9 n refl h)
            ]
          ]
        ]
      ]
    ]
  ]
]

pub float_head_is : (n : ℕ) → (n ≡ 4) ⊎ (n ≡ 8) → IsHead (raw float) n (float_head n)
unfolding float_head form middle
float_head_is n h = elim h [
  | inl e ↦ same_head (raw float) n _ (0xca ∷ []) (grind (arith, nat_tests)) (in_itself (raw float) 0xca n (ap (λ (k : ℕ). raw float (fixed k)) (sym e)))
  | inr e ↦ same_head (raw float) n _ (0xcb ∷ []) (grind (arith, nat_tests)) (in_itself (raw float) 0xcb n (ap (λ (k : ℕ). raw float (fixed k)) (sym e)))
]
