-- What a take adds at the end of the events, the trees past the states, and the takes that poll nothing.
use Rattle.std.proofs.Common.{◌≡◌, ℕ, zero, suc, ◌+◌, ◌^◌, Bool, true, false, cond, T, ◌⊎◌, ◌↔◌, List, [], ◌∷◌, ◌++◌, length, sym, refl, ap, ◌∙◌, subst, ap₂, inl, inr, arith, lit≤}
use lib.Bits.{bit_or}
use Rattle.std.proofs.lemmas.Bool.{cases_eq}
use Rattle.rules.specs.declared.Verdict.{Verdict}
use Rattle.events.specs.Sets.{has, ◌∈◌, union_over}
use Rattle.rules.specs.automata.Rules.{Rule}
use Rattle.rules.specs.automata.Runs.{Live}
use Rattle.rules.specs.automata.Pruning.{Release, Pruned, IsPrunedSet, Wants}
use Rattle.rules.specs.trees.Trees.{Tree, leaf, fork, polls, Serves}
use Rattle.rules.specs.trees.Bests.{Constant, BestTree}
use Rattle.rules.specs.watch.Holding.{polls_of, leads_to, tree_of, Settled, HeldFrom, Held, Next, WatchesFrom, Watches}
use Rattle.events.proofs.SetLaws.{∈_none, ∈_one_is, same_members}
use Rattle.rules.proofs.automata.RunLaws.{safe_live}
use Rattle.rules.proofs.watch.HeldLaws.{Released}

-- ---- one event more, at the end

pub held_from_more : (rule : Rule) (trees : List Tree) (es : List ℕ) (held set e next : ℕ) → HeldFrom rule trees held es set
    → Settled rule (leads_to trees set e) next → HeldFrom rule trees held (es ++ e ∷ []) next
held_from_more rule trees [] held set e next h settled = (next, subst (λ (n : ℕ). Settled rule (leads_to trees n e) next) (sym h) settled, refl)
held_from_more rule trees (x ∷ es) held set e next (n, s, h) settled = (n, s, held_from_more rule trees es n set e next h settled)

pub held_more : (rule : Rule) (trees : List Tree) (es : List ℕ) (set e next : ℕ) → Held rule trees es set
    → Settled rule (leads_to trees set e) next → Held rule trees (es ++ e ∷ []) next
held_more rule trees es set e next (raw, start, (first, s, h)) settled = (raw, start, (first, s, held_from_more rule trees es first set e next h settled))

pub watch_from_more : (rule : Rule) (trees : List Tree) (es : List ℕ) (count held : ℕ) (u : Verdict) (set e next : ℕ) (v w : Verdict) → WatchesFrom rule trees count held u es set v
    → Settled rule (leads_to trees set e) next → Next rule (suc (count + length es)) next v w → WatchesFrom rule trees count held u (es ++ e ∷ []) next w
watch_from_more rule trees [] count held u set e next v w (p, q) settled now = (
  next,
  subst (λ (n : ℕ). Settled rule (leads_to trees n e) next) (sym p) settled,
  (w, subst (λ (n : ℕ). Next rule (suc n) next u w) (native.Mathlib.Nat.add-zero count) (subst (λ (y : Verdict). Next rule (suc (count + 0)) next y w) (sym q) now), (refl, refl)),
)
watch_from_more rule trees (x ∷ es) count held u set e next v w (n, s, (shown, r, rest)) settled now =
    (n, s, (shown, r, watch_from_more rule trees es (suc count) n shown set e next v w rest settled (subst (λ (m : ℕ). Next rule (suc m) next v w) shift now)))
  where
    shift : count + suc (length es) ≡ suc count + length es
    shift = omega arith

pub watches_more : (rule : Rule) (trees : List Tree) (es : List ℕ) (set e next : ℕ) (v w : Verdict) → Watches rule trees es set v
    → Settled rule (leads_to trees set e) next → Next rule (suc (length es)) next v w → Watches rule trees (es ++ e ∷ []) next w
watches_more rule trees es set e next v w (raw, start, (first, s, (u, r, rest))) settled now =
    (raw, start, (first, s, (u, r, watch_from_more rule trees es 0 first u set e next v w rest settled (subst (λ (n : ℕ). Next rule (suc n) next v w) (sym (native.Mathlib.Nat.zero-add (length es))) now))))

-- ---- the understood leaf serves dead states

pub dead_serves : (rule : Rule) (q : ℕ) → (Live rule q → ⊥) → Serves rule q (leaf 0)
dead_serves rule q dead e l = record { small = lit≤ tt; members = λ t. ((λ h. absurd (∈_none t h)), λ p. absurd (none t p)) }
  where
    none : (t : ℕ) → Pruned rule q e t → ⊥
    none t (inl (live, x, y)) = dead live
    none t (inr (rel, x)) = dead (safe_live rule q rel.0)

-- ---- once released, a take polls nothing

release_set_lem : (rule : Rule) (r e set : ℕ) → Release rule r → IsPrunedSet rule r e set → (t : ℕ) → (t ∈ set) ↔ (t ≡ r)
release_set_lem rule r e set rel is t = ((λ h. only ((is.members t).0 h)), (λ p. (is.members t).1 (inr (rel, p))))
  where
    only : Pruned rule r e t → t ≡ r
    only (inl (live, unsafe, x)) = absurd (unsafe rel.0)
    only (inr (x, p)) = p

pub release_constant : (rule : Rule) (r : ℕ) (wants : ℕ → ℕ) → Release rule r → Wants rule r wants → Constant wants 0
release_constant rule r wants rel is a b la lb ca cb = same_members 32 (wants a) (wants b) (is a la).small (is b lb).small (λ t. (
  (λ h. (release_set_lem rule r b (wants b) rel (is b lb) t).1 ((release_set_lem rule r a (wants a) rel (is a la) t).0 h)),
  (λ h. (release_set_lem rule r a (wants a) rel (is a la) t).1 ((release_set_lem rule r b (wants b) rel (is b lb) t).0 h)),
))

pub release_polls : (rule : Rule) (r : ℕ) (wants line : ℕ → ℕ) (t : Tree) → Release rule r → Wants rule r wants → BestTree wants line 0 t → (e : ℕ) → polls t e ≡ 0
release_polls rule r wants line (leaf set) rel is b e = refl
release_polls rule r wants line (fork i on off) rel is b e = absurd (b.0 (release_constant rule r wants rel is))

union_of_one : (n r : ℕ) (f : ℕ → ℕ) → f r ≡ 0 → union_over n (2 ^ r) f ≡ 0
unfolding union_over
union_of_one zero r f z = refl
union_of_one (suc n) r f z = go (cases_eq n r) (union_of_one n r f z)
  where
    pick : (b : Bool) → (T b → f n ≡ 0) → union_over n (2 ^ r) f ≡ 0 → cond b (bit_or (f n) (union_over n (2 ^ r) f)) (union_over n (2 ^ r) f) ≡ 0
    pick true h ih = ap₂ (λ (x y : ℕ). bit_or x y) (h tt) ih
    pick false h ih = ih

    go : (n ≡ r) ⊎ (n ≡ r → ⊥) → union_over n (2 ^ r) f ≡ 0 → union_over (suc n) (2 ^ r) f ≡ 0
    go (inl e) ih = pick (has (2 ^ r) n) (λ t. ap f e ∙ z) ih
    go (inr ne) ih = pick (has (2 ^ r) n) (λ t. absurd (ne (∈_one_is n r t))) ih

pub released_polls_nothing : (rule : Rule) (trees : List Tree) (es : List ℕ) (set e : ℕ) → Released rule es set → ((r : ℕ) → Release rule r → polls (tree_of trees r) e ≡ 0)
    → polls_of trees set e ≡ 0
released_polls_nothing rule trees es set e (safe, (r, rel, p)) leafy =
    ap (λ (n : ℕ). polls_of trees n e) p ∙ union_of_one 32 r (λ q. polls (tree_of trees q) e) (leafy r rel)
