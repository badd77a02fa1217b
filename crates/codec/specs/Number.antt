-- What a number is as bytes, and what reading one answers.
use Rattle.std.specs.Prelude.{◌≡◌, ℕ, zero, suc, ◌+◌, ◌-◌, ◌*◌, ◌/◌, ◌%◌, ◌<◌, ◌≤◌, cond, ◌||◌, ◌↔◌, List, [], ◌∷◌, ◌++◌, length, drop, Ok, Err, Result, ◌==◌, nat_le, nat_lt, slice_index, slice_index_or}
use Rattle.codec.specs.declared.fault.NumberFault.{NumberFault}
use Rattle.codec.specs.declared.fault.NumberFault.TheVariants.{Short, Form}
use Rattle.codec.specs.Reading.{Read}

-- ---- the encoding

-- the groups of seven bits of n, lowest first, in the fewest of k + 1 bytes; each byte but the last has its top bit set
abbrev pub groups : ℕ → ℕ → List ℕ
groups zero n = n ∷ []
groups (suc k) n = cond (nat_lt n 128) (n ∷ []) ((128 + n % 128) ∷ groups k (n / 128))

-- the bytes of a number below 2 ^ 21
abbrev pub encode : ℕ → List ℕ
encode n = groups 2 n

-- the bytes from p up to q are the encoding of v
pub record IsNumber (f : List ℕ) (p v q : ℕ) : Type 0 where
  pub small : v < 2097152
  pub inside : q ≤ length f
  pub bytes : drop p f ≡ encode v ++ drop q f

-- ---- reading, by the bytes at a place

-- a number of one, two or three bytes; the first fault from left to right
abbrev pub number_at : List ℕ → ℕ → Result (Read ℕ) NumberFault
number_at f p =
    let a : ℕ = slice_index_or f p 0 in
    let b : ℕ = slice_index_or f (p + 1) 0 in
    let c : ℕ = slice_index_or f (p + 2) 0 in
    cond (nat_le (length f) p) (Err (Short (length f)))
    (cond (nat_lt a 128) (Ok (record { value = a; next = p + 1 }))
    (cond (nat_le (length f) (p + 1)) (Err (Short (length f)))
    (cond (b == 0) (Err (Form p))
    (cond (nat_lt b 128) (Ok (record { value = (a - 128) + 128 * b; next = p + 2 }))
    (cond (nat_le (length f) (p + 2)) (Err (Short (length f)))
    (cond (c == 0 || nat_le 128 c) (Err (Form p))
    (Ok (record { value = (a - 128) + 128 * (b - 128) + 16384 * c; next = p + 3 }))))))))

-- ---- the two are one

-- each element is a byte
abbrev pub Octets : List ℕ → Type 0
Octets f = (i : ℕ) → slice_index f i < 256

-- a number is read off a place exactly where the bytes there begin with its encoding
abbrev pub NumberExact : Type 0
NumberExact = (f : List ℕ) (p v q : ℕ) → Octets f → (number_at f p ≡ Ok (record { value = v; next = q })) ↔ IsNumber f p v q
