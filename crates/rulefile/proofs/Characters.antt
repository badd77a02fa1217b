-- A name is written character by character, and in ASCII at once.
use Rattle.std.proofs.Common.{◌≡◌, ℕ, ◌+◌, ◌<◌, List, [], ◌∷◌, ◌++◌, length, get_or, take, sym, ap, ◌∙◌, append-nil}
use lib.Utf8.{encode, encodes}
use Rattle.std.proofs.lemmas.List.{take_more}
use Rattle.std.specs.Str.{IsAscii}
use Rattle.std.proofs.lemmas.Str.{encodes-append, encodes-IsAscii}

-- one character more
pub character_more : (name : List ℕ) (i : ℕ) → i < length name → encodes (take i name) ++ encode (get_or name i 0) ≡ encodes (take (i + 1) name)
character_more name i l =
    sym (ap encodes (take_more name i 0 l)
    ∙ (encodes-append (take i name) (get_or name i 0 ∷ []) ∙ ap (λ xs. encodes (take i name) ++ xs) (append-nil (encode (get_or name i 0)))))

-- in ASCII the bytes are spelt as they stand
pub ascii_alike : (name text : List ℕ) → IsAscii name → text ≡ name → text ≡ encodes name
ascii_alike name text h is = is ∙ sym (encodes-IsAscii name h)
