-- The bytes of a name, one after the other.
use Rattle.std.proofs.Common.{◌≡◌, ℕ, suc, ◌+◌, ◌-◌, ◌<◌, ◌≤◌, true, false, cond, not, leb, List, length, get_or, Err, ap, ◌∙◌, arith}
use Rattle.std.proofs.lemmas.Bool.{cond-true, cond-false, le-leb, lt-leb}
use Rattle.codec.specs.declared.fault.CardFault.TheVariants as fault
use Rattle.rulefile.specs.Card.{is_name_byte, name_end}

module _ (f : List ℕ) (p e : ℕ) (left : p < e) where
  name_step : name_end f p (e - p) ≡ cond (leb (length f) p) (Err (fault.Short (length f)))
      (cond (not (is_name_byte (get_or f p 0))) (Err (fault.NameByte p)) (name_end f (p + 1) (e - (p + 1))))
  name_step = let k : e - p ≡ suc (e - (p + 1)) = omega arith in rw k

  -- the file ends in the name
  pub name_short : length f ≤ p → name_end f p (e - p) ≡ Err (fault.Short (length f))
  name_short h = name_step ∙ cond-true _ _ _ (le-leb _ _ h)

  -- a byte of the name is out of range
  pub name_byte : p < length f → is_name_byte (get_or f p 0) ≡ false → name_end f p (e - p) ≡ Err (fault.NameByte p)
  name_byte h b = name_step ∙ (cond-false _ _ _ (lt-leb _ _ h) ∙ cond-true _ _ _ (ap not b))

  -- one byte more
  pub name_more : p < length f → is_name_byte (get_or f p 0) ≡ true → name_end f p (e - p) ≡ name_end f (p + 1) (e - (p + 1))
  name_more h b = name_step ∙ (cond-false _ _ _ (lt-leb _ _ h) ∙ cond-false _ _ _ (ap not b))
