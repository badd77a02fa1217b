-- What the calls of a watch answer, from the events `es` taken since it was last armed and the events `coming` that the source has still to come,
-- and what these two lists are after the call.
use Rattle.std.specs.Prelude.{◌≡◌, ℕ, ◌<◌, ◌≤◌, List, [], ◌∷◌, ◌++◌, length, take, Some, None, Option, Ok, Err, Result, slice_index}
use Rattle.std.specs.List.{AllByRecursion}
use Rattle.rules.specs.declared.Verdict.{Verdict}
use Rattle.rules.specs.declared.Word.{Word}
use Rattle.rules.specs.declared.Word.TheVariants as word
use Rattle.rules.specs.declared.Call.{Call}
use Rattle.rules.specs.declared.Call.TheVariants as call
use Rattle.rules.specs.declared.Refusal.{Refusal}
use Rattle.rules.specs.declared.Refusal.TheVariants as refusal
use Rattle.rules.specs.declared.Answer.{Answer}
use Rattle.rules.specs.declared.Answer.TheVariants as answer
use Rattle.rules.specs.automata.Rules.{Rule}
use Rattle.rules.specs.trees.Trees.{Tree}
use Rattle.rules.specs.watch.Verdicts.{Tells, TellsBreach, TellsNoBreach, word_of}
use Rattle.rules.specs.watch.Holding.{Polled}

-- the number by which a refusal is told
abbrev pub number_of : Refusal → ℕ
number_of refusal.Breached = 41
number_of refusal.NothingWaits = 42
number_of refusal.Full = 43
number_of (refusal.NoEvent i) = 44

-- the index that is told with a refusal, where there is one
abbrev pub index_of : Refusal → Option ℕ
index_of refusal.Breached = None
index_of refusal.NothingWaits = None
index_of refusal.Full = None
index_of (refusal.NoEvent i) = Some i

-- what a take answers, by the verdict that is then shown and the lines polled
abbrev pub take_gives : Verdict → ℕ → Result Answer Refusal
take_gives v lines = Ok (answer.Taken (record { verdict = v; polled = lines }))

-- what a look answers, by the verdict and the count of events taken
abbrev pub look_gives : Verdict → ℕ → Result Answer Refusal
look_gives v count = Ok (answer.Shown (record { verdict = v; count = count }))

-- what a rehearsal answers, by the word and the count of events tried
abbrev pub rehearsal_gives : Word → ℕ → Result Answer Refusal
rehearsal_gives w count = Ok (answer.Tried (record { word = w; count = count }))

-- a watch takes at most so many events
abbrev pub limit : ℕ
limit = 1000000000

-- ---- take

-- refused by a breach, else by the limit, else where nothing waits; otherwise the first event that the source has is taken
pub data Taking (rule : Rule) (trees : List Tree) (es coming : List ℕ) : Result Answer Refusal → List ℕ → List ℕ → Type 0 where
  breached : TellsBreach rule trees es → Taking rule trees es coming (Err refusal.Breached) es coming
  full : TellsNoBreach rule trees es → length es ≡ limit → Taking rule trees es coming (Err refusal.Full) es coming
  nothing_waits : TellsNoBreach rule trees es → length es < limit → coming ≡ [] → Taking rule trees es coming (Err refusal.NothingWaits) es coming
  taken : (e : ℕ) (later : List ℕ) (v : Verdict) (lines : ℕ) → TellsNoBreach rule trees es → length es < limit → coming ≡ e ∷ later
      → Tells rule trees (es ++ e ∷ []) v → Polled rule trees es e lines → Taking rule trees es coming (take_gives v lines) (es ++ e ∷ []) later

-- ---- look

-- the verdict, and the count of events taken
pub data Looking (rule : Rule) (trees : List Tree) (es coming : List ℕ) : Result Answer Refusal → List ℕ → List ℕ → Type 0 where
  shown : (v : Verdict) → Tells rule trees es v → Looking rule trees es coming (look_gives v (length es)) es coming

-- ---- rehearse

-- the first k of the events tried are numbers below 64, and no breach stands after fewer than k of them
pub record TriedBefore (rule : Rule) (trees : List Tree) (es tried : List ℕ) (k : ℕ) : Type 0 where
  pub within : k ≤ length tried
  pub events : AllByRecursion (λ e. e < 64) (take k tried)
  pub lasts : (j : ℕ) → j < k → TellsNoBreach rule trees (es ++ take j tried)

-- refused by a breach; otherwise the events are tried in order, up to the first that gives a breach, or the first number above 63, or the end of the list
pub data Rehearsing (rule : Rule) (trees : List Tree) (es coming tried : List ℕ) : Result Answer Refusal → List ℕ → List ℕ → Type 0 where
  breached : TellsBreach rule trees es → Rehearsing rule trees es coming tried (Err refusal.Breached) es coming
  breach_found : (k : ℕ) → TellsNoBreach rule trees es → TriedBefore rule trees es tried k → TellsBreach rule trees (es ++ take k tried)
      → Rehearsing rule trees es coming tried (rehearsal_gives word.Breach k) es coming
  not_an_event : (i : ℕ) → TellsNoBreach rule trees es → TriedBefore rule trees es tried i → TellsNoBreach rule trees (es ++ take i tried)
      → i < length tried → 63 < slice_index tried i → Rehearsing rule trees es coming tried (Err (refusal.NoEvent i)) es coming
  finished : (v : Verdict) → TellsNoBreach rule trees es → TriedBefore rule trees es tried (length tried) → TellsNoBreach rule trees (es ++ tried)
      → Tells rule trees (es ++ tried) v → Rehearsing rule trees es coming tried (rehearsal_gives (word_of v) (length tried)) es coming

-- ---- rearm

-- the watch begins again, with no event taken
pub data Rearming (coming : List ℕ) : Result Answer Refusal → List ℕ → List ℕ → Type 0 where
  armed : Rearming coming (Ok answer.Armed) [] coming

-- ---- any call, and any list of calls

-- a call, by its answer and the lists after it
abbrev pub Calls : Rule → List Tree → Call → List ℕ → List ℕ → Result Answer Refusal → List ℕ → List ℕ → Type 0
Calls rule trees call.Take es coming = Taking rule trees es coming
Calls rule trees call.Look es coming = Looking rule trees es coming
Calls rule trees (call.Rehearse tried) es coming = Rehearsing rule trees es coming tried.now
Calls rule trees call.Rearm es coming = Rearming coming

-- calls one after the other, by their answers and the lists after them
pub data CallsAll (rule : Rule) (trees : List Tree) : List Call → List ℕ → List ℕ → List (Result Answer Refusal) → List ℕ → List ℕ → Type 0 where
  no_more : {es coming : List ℕ} → CallsAll rule trees [] es coming [] es coming
  one_more : {c : Call} {calls : List Call} {a : Result Answer Refusal} {answers : List (Result Answer Refusal)} {es coming es₁ coming₁ es' coming' : List ℕ}
      → Calls rule trees c es coming a es₁ coming₁ → CallsAll rule trees calls es₁ coming₁ answers es' coming'
      → CallsAll rule trees (c ∷ calls) es coming (a ∷ answers) es' coming'
