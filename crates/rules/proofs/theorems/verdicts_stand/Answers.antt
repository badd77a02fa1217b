-- Each theorem, by its proof.
use Rattle.rules.proofs.watch.VerdictLaws.{watch_shows, set_says}
use Rattle.rules.proofs.watch.PromiseLaws.{fitted_sound, clear_polls_nothing}
use Rattle.rules.proofs.theorems.verdicts_stand.Goals as goal

pub returns : goal.returns
returns c = record {
  shown = λ rule trees sound es ok set v watches. (watch_shows rule trees sound.decided sound.serves es set v ok watches).1;
  held = λ rule trees sound es ok set held. set_says rule sound.decided trees sound.serves es ok set held;
  sound = fitted_sound;
  clear = clear_polls_nothing;
}
