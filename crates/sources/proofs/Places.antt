-- What a list holds at a place, and behind it.
use Rattle.std.proofs.Common.{◌≡◌, ℕ, ◌+◌, ◌<◌, List, length, drop, sym, ap}
use Rattle.std.proofs.lemmas.List.{drop_more}
use Rattle.sources.specs.Waiting.{later_of}

pub later_at : (xs : List ℕ) (n : ℕ) → n < length xs → drop (n + 1) xs ≡ later_of (drop n xs)
later_at xs n h = ap later_of (sym (drop_more xs n 0 h))
