-- What an implementation shows of its masks: reachability as a least closed set, live and safe states, and sets that settle in 32 rounds.
use Rattle.std.proofs.Common.{◌≡◌, ℕ, zero, suc, ◌-◌, ◌^◌, ◌<◌, ◌≤◌, Bool, true, false, T, ◌⊎◌, ◌↔◌, List, [], ◌∷◌, sym, refl, ap, ◌∙◌, subst, inl, inr, le_refl, not-suc-le-zero, arith, lit≤}
use Rattle.std.proofs.lemmas.Bool.{cases_eq, cases_lt}
use Rattle.std.specs.List.{AllByRecursion}
use Rattle.rules.specs.declared.Move.{Move}
use Rattle.events.specs.Sets.{has, ◌∈◌}
use Rattle.events.specs.Cells.{Covers, lowest, one_if, count_below}
use Rattle.rules.specs.automata.Rules.{Rule, Any, Accepts, Event}
use Rattle.rules.specs.automata.Runs.{NotEmpty, Step, Run, Live, SafeSet, Safe}
use Rattle.events.proofs.SetLaws.{dec∈, ∈_one, ∈_one_is, same_mask}
use Rattle.events.proofs.CellLaws.{lowest_small, lowest-covered}
use Rattle.rules.proofs.automata.RunLaws.{live_there}

-- ---- reachability

-- some event leads from q to r
abbrev pub Edge : Rule → ℕ → ℕ → Type 0
Edge rule q r = (e : ℕ) × Event rule e × Step rule q e r

-- some events lead from q to r
abbrev pub Way : Rule → ℕ → ℕ → Type 0
Way rule q r = (es : List ℕ) × AllByRecursion (Event rule) es × Run rule q es r

-- some events lead from q into the set
abbrev pub ReachesInto : Rule → ℕ → ℕ → Type 0
ReachesInto rule seed q = (r : ℕ) × (r ∈ seed) × Way rule q r

pub into_more : (rule : Rule) (seed q r : ℕ) → Edge rule q r → ReachesInto rule seed r → ReachesInto rule seed q
into_more rule seed q r (e, ok, step) (t, h, (es, oks, run)) = (t, h, (e ∷ es, (ok, oks), (r, step, run)))

closed_run : (rule : Rule) (reach : ℕ) → ((q r : ℕ) → Edge rule q r → r ∈ reach → q ∈ reach) → (es : List ℕ) (q r : ℕ) → AllByRecursion (Event rule) es → Run rule q es r → r ∈ reach → q ∈ reach
closed_run rule reach closed [] q r ok run h = subst (λ (n : ℕ). n ∈ reach) (sym run) h
closed_run rule reach closed (e ∷ es) q r (ok, oks) (p, step, run) h = closed q p (e, ok, step) (closed_run rule reach closed es p r oks run h)

pub reach_is : (rule : Rule) (seed reach : ℕ) → ((q : ℕ) → q ∈ seed → q ∈ reach) → ((q r : ℕ) → Edge rule q r → r ∈ reach → q ∈ reach)
    → ((q : ℕ) → q ∈ reach → ReachesInto rule seed q) → (q : ℕ) → (q ∈ reach) ↔ ReachesInto rule seed q
reach_is rule seed reach seeds closed sound q = (sound q, λ (r, h, (es, oks, run)). closed_run rule reach closed es q r oks run (seeds r h))

-- ---- live states: those that reach an accepting state on a cycle

abbrev pub Turns : Rule → ℕ → Type 0
Turns rule a = Accepts rule a × ((r : ℕ) × Edge rule a r × Way rule r a)

pub live_turns : (rule : Rule) (q : ℕ) → Live rule q → (a : ℕ) × Turns rule a × Way rule q a
live_turns rule q l = (l.accepting, (l.accepts, turn l.v l.v_turns l.v_events l.round), (l.u, l.u_events, live_there rule q l))
  where
    turn : (v : List ℕ) → NotEmpty v → AllByRecursion (Event rule) v → Run rule l.accepting v l.accepting → (r : ℕ) × Edge rule l.accepting r × Way rule r l.accepting
    turn [] n ok run = absurd n
    turn (e ∷ v) n (ok, oks) (r, step, run) = (r, (e, ok, step), (v, oks, run))

pub turns_live : (rule : Rule) (q a : ℕ) → Turns rule a → Way rule q a → Live rule q
turns_live rule q a (acc, (r, (e, ok, step), (es, oks, run))) (us, uok, urun) = record {
  u = us;
  v = e ∷ es;
  u_events = uok;
  v_events = (ok, oks);
  v_turns = tt;
  start = q;
  accepting = a;
  begins = refl;
  accepts = acc;
  there = urun;
  round = (r, step, run);
}

-- the live mask, from the mask of turning states
pub live_is : (rule : Rule) (turning live : ℕ) → ((a : ℕ) → (a ∈ turning) ↔ Turns rule a) → ((q : ℕ) → (q ∈ live) ↔ ReachesInto rule turning q)
    → (q : ℕ) → (q ∈ live) ↔ Live rule q
live_is rule turning live turns reach q = (
  (λ h. let (a, t, p) = (reach q).0 h in turns_live rule q a ((turns a).0 t) p),
  (λ l. let (a, t, p) = live_turns rule q l in (reach q).1 (a, (turns a).1 t, p)),
)

-- the mask of turning states, from a mask of the states that reach each accepting state
pub turns_is : (rule : Rule) (turning : ℕ) (back : ℕ → ℕ) → ((a q : ℕ) → (q ∈ back a) ↔ ReachesInto rule (2 ^ a) q)
    → ((a : ℕ) → (a ∈ turning) ↔ (Accepts rule a × ((r : ℕ) × Edge rule a r × (r ∈ back a)))) → (a : ℕ) → (a ∈ turning) ↔ Turns rule a
turns_is rule turning back reach mask a = (
  (λ h. let (acc, (r, e, k)) = (mask a).0 h in let (t, one, p) = (reach a r).0 k in (acc, (r, e, subst (Way rule r) (∈_one_is t a one) p))),
  (λ (acc, (r, e, p)). (mask a).1 (acc, (r, e, (reach a r).1 (a, ∈_one a, p)))),
)

-- ---- safe states: the greatest safe set

abbrev pub HoldsSafe : Rule → ℕ → Type 0
HoldsSafe rule set = (q : ℕ) → Safe rule q → q ∈ set

pub safe_is : (rule : Rule) (set : ℕ) → SafeSet rule set → HoldsSafe rule set → (q : ℕ) → (q ∈ set) ↔ Safe rule q
safe_is rule set safe holds q = ((λ h. (set, safe, h)), holds q)

-- a state with an event that leads to no member is not safe, so it may be dropped
pub drop_unsafe : (rule : Rule) (set next : ℕ) → HoldsSafe rule set
    → ((q : ℕ) → q ∈ set → (q ∈ next → ⊥) → (e : ℕ) × Event rule e × ((r : ℕ) → Step rule q e r → r ∈ set → ⊥)) → HoldsSafe rule next
drop_unsafe rule set next holds dropped q (s, safe, h) = go (dec∈ q next)
  where
    go : (q ∈ next) ⊎ (q ∈ next → ⊥) → q ∈ next
    go (inl k) = k
    go (inr out) =
        let (e, ok, none) = dropped q (holds q (s, safe, h)) out in
        let (r, step, k) = safe.stays q e h ok in
        absurd (none r step (holds r (s, safe, k)))

-- ---- every cell covers an event, so every move is an edge

pub covers_some : (cell : ℕ) → (e : ℕ) × (e < 64) × Covers cell e
covers_some cell = (lowest cell, lowest_small cell, lowest-covered cell)

pub move_edge : (moves : List Move) (q r : ℕ) → Any (λ m. (m.from ≡ q) × (m.to ≡ r)) moves
    → (e : ℕ) × (e < 64) × Any (λ m. (m.from ≡ q) × Covers m.cell e × (m.to ≡ r)) moves
move_edge [] q r h = absurd h
move_edge (m ∷ moves) q r (inl (p, p')) = let (e, l, c) = covers_some m.cell in (e, l, inl (p, c, p'))
move_edge (m ∷ moves) q r (inr h) = let (e, l, s) = move_edge moves q r h in (e, l, inr s)

pub edge_move : (moves : List Move) (q r e : ℕ) → Any (λ m. (m.from ≡ q) × Covers m.cell e × (m.to ≡ r)) moves → Any (λ m. (m.from ≡ q) × (m.to ≡ r)) moves
edge_move [] q r e h = absurd h
edge_move (m ∷ moves) q r e (inl (p, c, p')) = inl (p, p')
edge_move (m ∷ moves) q r e (inr h) = inr (edge_move moves q r e h)

-- since each number below 64 can come, the edges are the moves
pub edge_is : (rule : Rule) (q r : ℕ) → Any (λ m. (m.from ≡ q) × (m.to ≡ r)) rule.moves ↔ Edge rule q r
edge_is rule q r = (move_edge rule.moves q r, (λ (e, ok, step). edge_move rule.moves q r e step))

-- ---- sets that only grow settle in as many rounds as there are states

abbrev pub iter : ℕ → (ℕ → ℕ) → ℕ → ℕ
iter zero f x = x
iter (suc n) f x = f (iter n f x)

-- a step that moves a measure up by at least one, or not at all, has settled after as many rounds as the measure can take
pub settles : (Ok : ℕ → Type 0) (f m : ℕ → ℕ) (top : ℕ) → ((y : ℕ) → Ok y → Ok (f y)) → ((y : ℕ) → Ok y → (f y ≡ y) ⊎ (m y < m (f y))) → ((y : ℕ) → Ok y → m y ≤ top)
    → (x : ℕ) → Ok x → f (iter top f x) ≡ iter top f x
settles Ok f m top keeps moves low x ok = end (moves (iter top f x) (all top)) (rounds top)
  where
    all : (n : ℕ) → Ok (iter n f x)
    all zero = ok
    all (suc n) = keeps (iter n f x) (all n)

    again : (n : ℕ) → (f (iter n f x) ≡ iter n f x) ⊎ (n ≤ m (iter n f x)) → (f (iter n f x) ≡ iter n f x) ⊎ (m (iter n f x) < m (iter (suc n) f x)) → (f (iter (suc n) f x) ≡ iter (suc n) f x) ⊎ (suc n ≤ m (iter (suc n) f x))
    again n (inl e) d = inl (ap f e)
    again n (inr h) (inl e) = inl (ap f e)
    again n (inr h) (inr k) = inr (omega arith)

    rounds : (n : ℕ) → (f (iter n f x) ≡ iter n f x) ⊎ (n ≤ m (iter n f x))
    rounds zero = inr (omega arith)
    rounds (suc n) = again n (rounds n) (moves (iter n f x) (all n))

    end : (f (iter top f x) ≡ iter top f x) ⊎ (m (iter top f x) < m (iter (suc top) f x)) → (f (iter top f x) ≡ iter top f x) ⊎ (top ≤ m (iter top f x)) → f (iter top f x) ≡ iter top f x
    end (inl e) d = e
    end (inr k) (inl e) = e
    end (inr k) (inr h) = absurd (let l = low (iter (suc top) f x) (all (suc top)) in let no_way : ⊥ = omega arith in no_way)

abbrev pub size : ℕ → ℕ → ℕ
size n set = count_below n (has set)

one_if_le : (a b : Bool) → (T a → T b) → one_if a ≤ one_if b
one_if_le true true h = le_refl 1
one_if_le true false h = absurd (h tt)
one_if_le false true h = lit≤ tt
one_if_le false false h = le_refl 0

one_if_same : (a b : Bool) → one_if a ≡ one_if b → a ≡ b
one_if_same true true h = refl
one_if_same true false h = absurd (let no_way : ⊥ = omega arith in no_way)
one_if_same false true h = absurd (let no_way : ⊥ = omega arith in no_way)
one_if_same false false h = refl

pub size_le : (n a b : ℕ) → ((k : ℕ) → k ∈ a → k ∈ b) → size n a ≤ size n b
size_le zero a b h = le_refl 0
size_le (suc n) a b h = omega (arith, size_le n a b h, one_if_le (has a n) (has b n) (h n))

pub size_same : (n a b : ℕ) → ((k : ℕ) → k ∈ a → k ∈ b) → size n b ≤ size n a → (k : ℕ) → k < n → has a k ≡ has b k
size_same zero a b h l k lk = absurd (not-suc-le-zero lk)
size_same (suc n) a b h l k lk = at (cases_eq k n) (size_same n a b h (omega (arith, one_if_le (has a n) (has b n) (h n))))
  where
    last : has a n ≡ has b n
    last = one_if_same (has a n) (has b n) (omega (arith, size_le n a b h, one_if_le (has a n) (has b n) (h n)))

    at : (k ≡ n) ⊎ (k ≡ n → ⊥) → ((j : ℕ) → j < n → has a j ≡ has b j) → has a k ≡ has b k
    at (inl e) ih = ap (has a) e ∙ (last ∙ sym (ap (has b) e))
    at (inr ne) ih = ih k (omega arith)

pub size_top : (n a : ℕ) → size n a ≤ n
size_top zero a = le_refl 0
size_top (suc n) a = omega (arith, size_top n a, bit (has a n))
  where
    bit : (b : Bool) → one_if b ≤ 1
    bit true = le_refl 1
    bit false = lit≤ tt

-- a set that grows by a step is settled after n rounds
pub growing_settles : (n : ℕ) (f : ℕ → ℕ) → ((y : ℕ) → y < 2 ^ n → f y < 2 ^ n) → ((y k : ℕ) → k ∈ y → k ∈ f y) → (x : ℕ) → x < 2 ^ n → f (iter n f x) ≡ iter n f x
growing_settles n f small grows x ok = settles (λ y. y < 2 ^ n) f (size n) n small moves (λ y l. size_top n y) x ok
  where
    moves : (y : ℕ) → y < 2 ^ n → (f y ≡ y) ⊎ (size n y < size n (f y))
    moves y l = go (cases_lt (size n y) (size n (f y)))
      where
        go : (size n y < size n (f y)) ⊎ (size n (f y) ≤ size n y) → (f y ≡ y) ⊎ (size n y < size n (f y))
        go (inl h) = inr h
        go (inr h) = inl (sym (same_mask n y (f y) l (small y l) (size_same n y (f y) (grows y) h)))

-- a set that shrinks by a step is settled after n rounds
pub shrinking_settles : (n : ℕ) (f : ℕ → ℕ) → ((y : ℕ) → y < 2 ^ n → f y < 2 ^ n) → ((y k : ℕ) → k ∈ f y → k ∈ y) → (x : ℕ) → x < 2 ^ n → f (iter n f x) ≡ iter n f x
shrinking_settles n f small shrinks x ok = settles (λ y. y < 2 ^ n) f (λ y. n - size n y) n small moves (λ y l. omega arith) x ok
  where
    moves : (y : ℕ) → y < 2 ^ n → (f y ≡ y) ⊎ (n - size n y < n - size n (f y))
    moves y l = go (cases_lt (size n (f y)) (size n y))
      where
        go : (size n (f y) < size n y) ⊎ (size n y ≤ size n (f y)) → (f y ≡ y) ⊎ (n - size n y < n - size n (f y))
        go (inl h) = inr (omega (arith, size_top n y))
        go (inr h) = inl (same_mask n (f y) y (small y l) l (size_same n (f y) y (shrinks y) h))
