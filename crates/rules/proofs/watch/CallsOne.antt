-- Over events that can come, a call's answer is determined, and so are the events taken and still to come after it.
use Rattle.std.proofs.Common.{◌≡◌, ℕ, ◌^◌, ◌<◌, ◌≤◌, ◌⊎◌, List, [], ◌∷◌, ◌++◌, length, get_or, take, sym, refl, ap, ◌∙◌, subst, ap₂, inl, inr, le_refl, arith}
use Rattle.std.specs.Prelude.{Err, Result}
use Rattle.std.specs.List.{AllByRecursion}
use Rattle.std.proofs.lemmas.List.{get_or-take, length-take-le, take_all}
use Rattle.std.proofs.lemmas.Bool.{cases_order, cases_lt}
use Rattle.rules.specs.declared.Verdict.{Verdict}
use Rattle.rules.specs.declared.Verdict.TheVariants as verdict
use Rattle.rules.specs.declared.Word.TheVariants as word
use Rattle.rules.specs.declared.Call.{Call}
use Rattle.rules.specs.declared.Call.TheVariants as call
use Rattle.rules.specs.declared.Refusal.{Refusal}
use Rattle.rules.specs.declared.Refusal.TheVariants as refusal
use Rattle.rules.specs.declared.Answer.{Answer}
use Rattle.rules.specs.automata.Rules.{Rule, Event}
use Rattle.rules.specs.trees.Trees.{Tree}
use Rattle.rules.specs.watch.Verdicts.{Shows, Tells, IsBreach, TellsBreach, TellsNoBreach, word_of}
use Rattle.rules.specs.watch.Holding.{leads_to, polls_of, Settled, StartSet, HeldFrom, Held, Polled}
use Rattle.rules.specs.watch.Calls.{limit, Taking, TriedBefore, Rehearsing, Calls, CallsAll, take_gives, look_gives, rehearsal_gives}
use Rattle.rules.specs.watch.Calls as C
use Rattle.events.proofs.SetLaws.{same_members}
use Rattle.rules.proofs.automata.RunLaws.{all_++, release_one}
use Rattle.rules.proofs.automata.RuleLaws.{all_at}

-- ---- the held set

pub start_one : (rule : Rule) (a b : ℕ) → StartSet rule a → StartSet rule b → a ≡ b
start_one rule a b ha hb = same_members 32 a b ha.small hb.small (λ t. ((λ h. (hb.members t).1 ((ha.members t).0 h)), (λ h. (ha.members t).1 ((hb.members t).0 h))))

pub settled_one : (rule : Rule) (raw a b : ℕ) → Settled rule raw a → Settled rule raw b → a ≡ b
settled_one rule raw a b (inl (r, rel, h, p)) (inl (r', rel', h', p')) = p ∙ (ap (λ (n : ℕ). 2 ^ n) (release_one rule r r' rel rel') ∙ sym p')
settled_one rule raw a b (inl (r, rel, h, p)) (inr (none, p')) = absurd (none r rel h)
settled_one rule raw a b (inr (none, p)) (inl (r', rel', h', p')) = absurd (none r' rel' h')
settled_one rule raw a b (inr (none, p)) (inr (none', p')) = p ∙ sym p'

held_from_one : (rule : Rule) (trees : List Tree) (es : List ℕ) (held a b : ℕ) → HeldFrom rule trees held es a → HeldFrom rule trees held es b → a ≡ b
held_from_one rule trees [] held a b p q = sym p ∙ q
held_from_one rule trees (e ∷ es) held a b (n, s, h) (n', s', h') =
    held_from_one rule trees es n a b h (subst (λ (m : ℕ). HeldFrom rule trees m es b) (sym (settled_one rule (leads_to trees held e) n n' s s')) h')

pub held_one : (rule : Rule) (trees : List Tree) (es : List ℕ) (a b : ℕ) → Held rule trees es a → Held rule trees es b → a ≡ b
held_one rule trees es a b (raw, start, (first, settled, h)) (raw', start', (first', settled', h')) =
    let raws = start_one rule raw raw' start start' in
    let firsts = settled_one rule raw first first' settled (subst (λ (n : ℕ). Settled rule n first') (sym raws) settled') in
    held_from_one rule trees es first a b h (subst (λ (m : ℕ). HeldFrom rule trees m es b) (sym firsts) h')

pub polled_one : (rule : Rule) (trees : List Tree) (es : List ℕ) (e a b : ℕ) → Polled rule trees es e a → Polled rule trees es e b → a ≡ b
polled_one rule trees es e a b (held, h, p) (held', h', p') = p ∙ (ap (λ (n : ℕ). polls_of trees n e) (held_one rule trees es held held' h h') ∙ sym p')

-- ---- the verdict

pub shows_one : (rule : Rule) (es : List ℕ) (v w : Verdict) → Shows rule es v → Shows rule es w → v ≡ w
shows_one rule es (verdict.BreachAt j) w sv sw = sym ((sw.breach j).1 ((sv.breach j).0 refl))
shows_one rule es (verdict.ClearSince i) w sv sw = sym ((sw.clear i).1 ((sv.clear i).0 refl))
shows_one rule es verdict.Open (verdict.BreachAt j) sv sw = (sv.breach j).1 ((sw.breach j).0 refl)
shows_one rule es verdict.Open (verdict.ClearSince i) sv sw = (sv.clear i).1 ((sw.clear i).0 refl)
shows_one rule es verdict.Open verdict.Open sv sw = refl

pub tells_one : (rule : Rule) (trees : List Tree) (es : List ℕ) (v w : Verdict) → AllByRecursion (Event rule) es → Tells rule trees es v → Tells rule trees es w → v ≡ w
tells_one rule trees es v w ok a b = shows_one rule es v w (a.shows ok) (b.shows ok)

-- a breach stands or it does not
pub apart : (rule : Rule) (trees : List Tree) (es : List ℕ) → AllByRecursion (Event rule) es → TellsBreach rule trees es → TellsNoBreach rule trees es → ⊥
apart rule trees es ok (v, t, b) (w, t', nb) = nb (subst IsBreach (tells_one rule trees es v w ok t t') b)

-- ---- lists of events

-- every number below 64 is an event that can come
pub small_events : (rule : Rule) (xs : List ℕ) → AllByRecursion (λ e. e < 64) xs → AllByRecursion (Event rule) xs
small_events rule xs h = h

-- so where only such numbers come, what is told is what is to be shown
pub tells_shows : (rule : Rule) (trees : List Tree) (es : List ℕ) (v : Verdict) → AllByRecursion (λ e. e < 64) es → Tells rule trees es v → Shows rule es v
tells_shows rule trees es v small tells = tells.shows (small_events rule es small)

abbrev pub Same : Result Answer Refusal → List ℕ → List ℕ → Result Answer Refusal → List ℕ → List ℕ → Type 0
Same a es coming b es' coming' = (a ≡ b) × (es ≡ es') × (coming ≡ coming')

-- ---- take

pub taking_one : (rule : Rule) (trees : List Tree) (es coming : List ℕ) (a b : Result Answer Refusal) (es' es'' coming' coming'' : List ℕ) → AllByRecursion (Event rule) es → AllByRecursion (Event rule) coming
    → Taking rule trees es coming a es' coming' → Taking rule trees es coming b es'' coming'' → Same a es' coming' b es'' coming''
taking_one rule trees es coming a b es' es'' coming' coming'' ok okc (C.Taking.breached x) (C.Taking.breached y) = (refl, refl, refl)
taking_one rule trees es coming a b es' es'' coming' coming'' ok okc (C.Taking.breached x) (C.Taking.full y l) = absurd (apart rule trees es ok x y)
taking_one rule trees es coming a b es' es'' coming' coming'' ok okc (C.Taking.breached x) (C.Taking.nothing_waits y l c) = absurd (apart rule trees es ok x y)
taking_one rule trees es coming a b es' es'' coming' coming'' ok okc (C.Taking.breached x) (C.Taking.taken e t v ls y l c s p) = absurd (apart rule trees es ok x y)
taking_one rule trees es coming a b es' es'' coming' coming'' ok okc (C.Taking.full x k) (C.Taking.breached y) = absurd (apart rule trees es ok y x)
taking_one rule trees es coming a b es' es'' coming' coming'' ok okc (C.Taking.full x k) (C.Taking.full y l) = (refl, refl, refl)
taking_one rule trees es coming a b es' es'' coming' coming'' ok okc (C.Taking.full x k) (C.Taking.nothing_waits y l c) = absurd (omega arith)
taking_one rule trees es coming a b es' es'' coming' coming'' ok okc (C.Taking.full x k) (C.Taking.taken e t v ls y l c s p) = absurd (omega arith)
taking_one rule trees es coming a b es' es'' coming' coming'' ok okc (C.Taking.nothing_waits x k d) (C.Taking.breached y) = absurd (apart rule trees es ok y x)
taking_one rule trees es coming a b es' es'' coming' coming'' ok okc (C.Taking.nothing_waits x k d) (C.Taking.full y l) = absurd (omega arith)
taking_one rule trees es coming a b es' es'' coming' coming'' ok okc (C.Taking.nothing_waits x k d) (C.Taking.nothing_waits y l c) = (refl, refl, refl)
taking_one rule trees es coming a b es' es'' coming' coming'' ok okc (C.Taking.nothing_waits x k d) (C.Taking.taken e t v ls y l c s p) = absurd cc
taking_one rule trees es coming a b es' es'' coming' coming'' ok okc (C.Taking.taken e t v ls x k d s p) (C.Taking.breached y) = absurd (apart rule trees es ok y x)
taking_one rule trees es coming a b es' es'' coming' coming'' ok okc (C.Taking.taken e t v ls x k d s p) (C.Taking.full y l) = absurd (omega arith)
taking_one rule trees es coming a b es' es'' coming' coming'' ok okc (C.Taking.taken e t v ls x k d s p) (C.Taking.nothing_waits y l c) = absurd cc
taking_one rule trees es coming a b es' es'' coming' coming'' ok okc (C.Taking.taken e t v ls x k d s p) (C.Taking.taken e' t' v' ls' y l c s' p') =
    let events : e ≡ e' = cc in
    let all = all_++ (Event rule) es (e ∷ []) ok ((subst (AllByRecursion (Event rule)) d okc).0, tt) in
    let verdicts = tells_one rule trees (es ++ e ∷ []) v v' all s (subst (λ (n : ℕ). Tells rule trees (es ++ n ∷ []) v') (sym events) s') in
    let lines = polled_one rule trees es e ls ls' p (subst (λ (n : ℕ). Polled rule trees es n ls') (sym events) p') in
    (ap₂ (λ (y : Verdict) (n : ℕ). take_gives y n) verdicts lines, ap (λ (n : ℕ). es ++ n ∷ []) events, cc)

-- ---- rehearse

-- an event among the first k is small, so it is not one above 63
small_apart : (tried : List ℕ) (k i : ℕ) → k ≤ length tried → i < k → AllByRecursion (λ e. e < 64) (take k tried) → 63 < get_or tried i 0 → ⊥
small_apart tried k i w l ok above =
    let small : get_or (take k tried) i 0 < 64 = all_at (λ e. e < 64) (take k tried) i 0 (subst (λ (x : ℕ). i < x) (sym (length-take-le k tried w)) l) ok in
    let at = get_or-take k tried i 0 l in
    let no_way : ⊥ = omega (arith, small, at, above) in no_way

module _ (rule : Rule) (trees : List Tree) (es tried : List ℕ) (ok : AllByRecursion (Event rule) es) where
  tried_apart : (k : ℕ) → AllByRecursion (λ e. e < 64) (take k tried) → TellsBreach rule trees (es ++ take k tried) → TellsNoBreach rule trees (es ++ take k tried) → ⊥
  tried_apart k small = apart rule trees (es ++ take k tried) (all_++ (Event rule) es (take k tried) ok (small_events rule (take k tried) small))

  all_tried : take (length tried) tried ≡ tried
  all_tried = take_all (length tried) tried (le_refl (length tried))

  -- the rest of the first k, where no breach stands after fewer, and none after k
  no_breach_upto : (k j : ℕ) → j ≤ k → TriedBefore rule trees es tried k → TellsNoBreach rule trees (es ++ take k tried) → TellsNoBreach rule trees (es ++ take j tried)
  no_breach_upto k j l before here = go (cases_order j k)
    where
      go : (j ≡ k) ⊎ ((j < k) ⊎ (k < j)) → TellsNoBreach rule trees (es ++ take j tried)
      go (inl e) = subst (λ (n : ℕ). TellsNoBreach rule trees (es ++ take n tried)) (sym e) here
      go (inr (inl h)) = before.lasts j h
      go (inr (inr h)) = absurd (let no_way : ⊥ = omega arith in no_way)

  breach_one : (k k' : ℕ) → TriedBefore rule trees es tried k → TellsBreach rule trees (es ++ take k tried)
      → TriedBefore rule trees es tried k' → TellsBreach rule trees (es ++ take k' tried) → k ≡ k'
  breach_one k k' x b y b' = go (cases_order k k')
    where
      go : (k ≡ k') ⊎ ((k < k') ⊎ (k' < k)) → k ≡ k'
      go (inl e) = e
      go (inr (inl l)) = absurd (tried_apart k x.events b (y.lasts k l))
      go (inr (inr l)) = absurd (tried_apart k' y.events b' (x.lasts k' l))

  breach_event : (k i : ℕ) → TriedBefore rule trees es tried k → TellsBreach rule trees (es ++ take k tried)
      → TriedBefore rule trees es tried i → TellsNoBreach rule trees (es ++ take i tried) → 63 < get_or tried i 0 → ⊥
  breach_event k i x b y n above = go (cases_lt i k)
    where
      go : (i < k) ⊎ (k ≤ i) → ⊥
      go (inl l) = small_apart tried k i x.within l x.events above
      go (inr l) = tried_apart k x.events b (no_breach_upto i k l y n)

  breach_finished : (k : ℕ) → TriedBefore rule trees es tried k → TellsBreach rule trees (es ++ take k tried)
      → TriedBefore rule trees es tried (length tried) → TellsNoBreach rule trees (es ++ tried) → ⊥
  breach_finished k x b y n = tried_apart k x.events b (no_breach_upto (length tried) k x.within y (subst (λ (l : List ℕ). TellsNoBreach rule trees (es ++ l)) (sym all_tried) n))

  event_one : (i i' : ℕ) → TriedBefore rule trees es tried i → 63 < get_or tried i 0 → TriedBefore rule trees es tried i' → 63 < get_or tried i' 0 → i ≡ i'
  event_one i i' x above y above' = go (cases_order i i')
    where
      go : (i ≡ i') ⊎ ((i < i') ⊎ (i' < i)) → i ≡ i'
      go (inl e) = e
      go (inr (inl l)) = absurd (small_apart tried i' i y.within l y.events above)
      go (inr (inr l)) = absurd (small_apart tried i i' x.within l x.events above')

  event_finished : (i : ℕ) → i < length tried → 63 < get_or tried i 0 → TriedBefore rule trees es tried (length tried) → ⊥
  event_finished i l above y = small_apart tried (length tried) i y.within l y.events above

  pub rehearsing_one : (coming : List ℕ) (a b : Result Answer Refusal) (es' es'' coming' coming'' : List ℕ)
      → Rehearsing rule trees es coming tried a es' coming' → Rehearsing rule trees es coming tried b es'' coming'' → Same a es' coming' b es'' coming''
  rehearsing_one coming a b es' es'' coming' coming'' (C.Rehearsing.breached x) (C.Rehearsing.breached y) = (refl, refl, refl)
  rehearsing_one coming a b es' es'' coming' coming'' (C.Rehearsing.breached x) (C.Rehearsing.breach_found k y t h) = absurd (apart rule trees es ok x y)
  rehearsing_one coming a b es' es'' coming' coming'' (C.Rehearsing.breached x) (C.Rehearsing.not_an_event i y t h l m) = absurd (apart rule trees es ok x y)
  rehearsing_one coming a b es' es'' coming' coming'' (C.Rehearsing.breached x) (C.Rehearsing.finished v y t h s) = absurd (apart rule trees es ok x y)
  rehearsing_one coming a b es' es'' coming' coming'' (C.Rehearsing.breach_found k x t h) (C.Rehearsing.breached y) = absurd (apart rule trees es ok y x)
  rehearsing_one coming a b es' es'' coming' coming'' (C.Rehearsing.breach_found k x t h) (C.Rehearsing.breach_found k' y t' h') =
      (ap (λ (n : ℕ). rehearsal_gives word.Breach n) (breach_one k k' t h t' h'), refl, refl)
  rehearsing_one coming a b es' es'' coming' coming'' (C.Rehearsing.breach_found k x t h) (C.Rehearsing.not_an_event i y t' h' l m) = absurd (breach_event k i t h t' h' m)
  rehearsing_one coming a b es' es'' coming' coming'' (C.Rehearsing.breach_found k x t h) (C.Rehearsing.finished v y t' h' s) = absurd (breach_finished k t h t' h')
  rehearsing_one coming a b es' es'' coming' coming'' (C.Rehearsing.not_an_event i x t h l m) (C.Rehearsing.breached y) = absurd (apart rule trees es ok y x)
  rehearsing_one coming a b es' es'' coming' coming'' (C.Rehearsing.not_an_event i x t h l m) (C.Rehearsing.breach_found k y t' h') = absurd (breach_event k i t' h' t h m)
  rehearsing_one coming a b es' es'' coming' coming'' (C.Rehearsing.not_an_event i x t h l m) (C.Rehearsing.not_an_event i' y t' h' l' m') =
      (ap (λ (n : ℕ). Err (refusal.NoEvent n)) (event_one i i' t m t' m'), refl, refl)
  rehearsing_one coming a b es' es'' coming' coming'' (C.Rehearsing.not_an_event i x t h l m) (C.Rehearsing.finished v y t' h' s) = absurd (event_finished i l m t')
  rehearsing_one coming a b es' es'' coming' coming'' (C.Rehearsing.finished v x t h s) (C.Rehearsing.breached y) = absurd (apart rule trees es ok y x)
  rehearsing_one coming a b es' es'' coming' coming'' (C.Rehearsing.finished v x t h s) (C.Rehearsing.breach_found k y t' h') = absurd (breach_finished k t' h' t h)
  rehearsing_one coming a b es' es'' coming' coming'' (C.Rehearsing.finished v x t h s) (C.Rehearsing.not_an_event i y t' h' l m) = absurd (event_finished i l m t)
  rehearsing_one coming a b es' es'' coming' coming'' (C.Rehearsing.finished v x t h s) (C.Rehearsing.finished w y t' h' s') = (
    ap (λ (u : Verdict). rehearsal_gives (word_of u) (length tried))
        (tells_one rule trees (es ++ tried) v w (all_++ (Event rule) es tried ok (small_events rule tried (subst (AllByRecursion (λ e. e < 64)) all_tried t.events))) s s'),
    refl,
    refl,
  )

-- ---- any call

pub calls_one : (rule : Rule) (trees : List Tree) (c : Call) (es coming : List ℕ) (a b : Result Answer Refusal) (es' es'' coming' coming'' : List ℕ) → AllByRecursion (Event rule) es → AllByRecursion (Event rule) coming
    → Calls rule trees c es coming a es' coming' → Calls rule trees c es coming b es'' coming'' → Same a es' coming' b es'' coming''
calls_one rule trees call.Take es coming a b es' es'' coming' coming'' ok okc x y = taking_one rule trees es coming a b es' es'' coming' coming'' ok okc x y
calls_one rule trees call.Look es coming a b es' es'' coming' coming'' ok okc (C.Looking.shown v s) (C.Looking.shown w s') =
    (ap (λ (u : Verdict). look_gives u (length es)) (tells_one rule trees es v w ok s s'), refl, refl)
calls_one rule trees (call.Rehearse tried) es coming a b es' es'' coming' coming'' ok okc x y = rehearsing_one rule trees es tried.now ok coming a b es' es'' coming' coming'' x y
calls_one rule trees call.Rearm es coming a b es' es'' coming' coming'' ok okc C.Rearming.armed C.Rearming.armed = (refl, refl, refl)

-- after a call there are still only events that can come
pub calls_events : (rule : Rule) (trees : List Tree) (c : Call) (es coming : List ℕ) (a : Result Answer Refusal) (es' coming' : List ℕ) → AllByRecursion (Event rule) es → AllByRecursion (Event rule) coming
    → Calls rule trees c es coming a es' coming' → AllByRecursion (Event rule) es' × AllByRecursion (Event rule) coming'
calls_events rule trees call.Take es coming a es' coming' ok okc (C.Taking.breached x) = (ok, okc)
calls_events rule trees call.Take es coming a es' coming' ok okc (C.Taking.full x k) = (ok, okc)
calls_events rule trees call.Take es coming a es' coming' ok okc (C.Taking.nothing_waits x k d) = (ok, okc)
calls_events rule trees call.Take es coming a es' coming' ok okc (C.Taking.taken e t v ls x k d s p) =
    let both = subst (AllByRecursion (Event rule)) d okc in (all_++ (Event rule) es (e ∷ []) ok (both.0, tt), both.1)
calls_events rule trees call.Look es coming a es' coming' ok okc (C.Looking.shown v s) = (ok, okc)
calls_events rule trees (call.Rehearse tried) es coming a es' coming' ok okc (C.Rehearsing.breached x) = (ok, okc)
calls_events rule trees (call.Rehearse tried) es coming a es' coming' ok okc (C.Rehearsing.breach_found k x t h) = (ok, okc)
calls_events rule trees (call.Rehearse tried) es coming a es' coming' ok okc (C.Rehearsing.not_an_event i x t h l m) = (ok, okc)
calls_events rule trees (call.Rehearse tried) es coming a es' coming' ok okc (C.Rehearsing.finished v x t h s) = (ok, okc)
calls_events rule trees call.Rearm es coming a es' coming' ok okc C.Rearming.armed = (tt, okc)

-- ---- any list of calls

pub calls_all_events : (rule : Rule) (trees : List Tree) (calls : List Call) (es coming : List ℕ) (answers : List (Result Answer Refusal)) (es' coming' : List ℕ) → AllByRecursion (Event rule) es → AllByRecursion (Event rule) coming
    → CallsAll rule trees calls es coming answers es' coming' → AllByRecursion (Event rule) es' × AllByRecursion (Event rule) coming'
calls_all_events rule trees [] es coming answers es' coming' ok okc C.CallsAll.no_more = (ok, okc)
calls_all_events rule trees (c ∷ calls) es coming answers es' coming' ok okc (C.CallsAll.one_more {a = a} {answers = rest} {es₁ = e₁} {coming₁ = c₁} x xs) =
    let (ok', okc') = calls_events rule trees c es coming a e₁ c₁ ok okc x in calls_all_events rule trees calls e₁ c₁ rest es' coming' ok' okc' xs

pub calls_all_one : (rule : Rule) (trees : List Tree) (calls : List Call) (es coming : List ℕ) (as₁ as₂ : List (Result Answer Refusal)) (es' es'' coming' coming'' : List ℕ) → AllByRecursion (Event rule) es → AllByRecursion (Event rule) coming
    → CallsAll rule trees calls es coming as₁ es' coming' → CallsAll rule trees calls es coming as₂ es'' coming'' → (as₁ ≡ as₂) × (es' ≡ es'') × (coming' ≡ coming'')
calls_all_one rule trees [] es coming as₁ as₂ es' es'' coming' coming'' ok okc C.CallsAll.no_more C.CallsAll.no_more = (refl, refl, refl)
calls_all_one rule trees (c ∷ calls) es coming as₁ as₂ es' es'' coming' coming'' ok okc
    (C.CallsAll.one_more {a = a} {answers = answers} {es₁ = e₁} {coming₁ = c₁} x xs) (C.CallsAll.one_more {a = b} {answers = answers'} {es₁ = e₂} {coming₁ = c₂} y ys) =
    let (p, q, r) = calls_one rule trees c es coming a b e₁ e₂ c₁ c₂ ok okc x y in
    let (ok', okc') = calls_events rule trees c es coming a e₁ c₁ ok okc x in
    let ys' = subst (λ (l : List ℕ). CallsAll rule trees calls e₁ l answers' es'' coming'') (sym r) (subst (λ (l : List ℕ). CallsAll rule trees calls l c₂ answers' es'' coming'') (sym q) ys) in
    let (ps, qs, rs) = calls_all_one rule trees calls e₁ c₁ answers answers' es' es'' coming' coming'' ok' okc' xs ys' in
    (ap₂ (λ (z : Result Answer Refusal) (zs : List (Result Answer Refusal)). z ∷ zs) p ps, qs, rs)
