-- A file that the check takes is printed by the draft that is made of it.
use Rattle.std.proofs.Common.{◌≡◌, ℕ, List, ◌++◌, length, IfOk, Ok, Option, Result, sym, ap, ◌∙◌}
use Rattle.std.proofs.lemmas.Result.{IfOk-weaker}
use Rattle.codec.proofs.Steps.{then_ok}
use Rattle.rules.specs.declared.Move.{Move}
use Rattle.rulefile.specs.declared.record.Counts.{Counts}
use Rattle.rulefile.specs.Records.{StateRecord}
use Rattle.rulefile.specs.Draft.{Agrees}
use Rattle.rulefile.specs.File.{Contents, file_of, checked, counted, overlaid, rows_of_states, rows_of_moves}
use Rattle.rulefile.specs.Rule.{rule_of}
use Rattle.rulefile.proofs.Agree.{checked-agrees}
use Rattle.listing.specs.Output.{with_log, rule_text}

pub taken_text : {A E : Type 0} (r : Result A E) (f before after : List ℕ) (log : Option (List ℕ)) (ss ss' : List StateRecord) (ms ms' : List Move) (n : Counts)
    → Ok n ≡ counted (checked f (length ss) (length ms)) → ss' ≡ overlaid (rows_of_states (checked f (length ss) (length ms))) ss → ms' ≡ overlaid (rows_of_moves (checked f (length ss) (length ms))) ms
    → IfOk r (λ _. (c : Contents) → Agrees f ss' ms' c → after ≡ before ++ with_log (rule_of f c) log) → IfOk r (λ _. after ≡ before ++ rule_text f log (file_of f))
taken_text r f before after log ss ss' ms ms' n h es em p =
    let t = then_ok (λ e. e) (checked f (length ss) (length ms)) _ n (sym h) in
    let s = es ∙ ap (λ x. overlaid (rows_of_states x) ss) t.1 in
    let m = em ∙ ap (λ x. overlaid (rows_of_moves x) ms) t.1 in
    let a = checked-agrees f ss ss' ms ms' t.0 t.1 s m in
    IfOk-weaker r _ _ (λ _ q. q t.0 a.1 ∙ ap (λ x. before ++ rule_text f log x) (sym a.0)) p
