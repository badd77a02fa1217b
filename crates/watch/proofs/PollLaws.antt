-- Ways down the trees that are read off sound nodes, and polls of one event, none twice.
use Rattle.std.proofs.Common.{◌≡◌, ℕ, zero, suc, ◌+◌, ◌^◌, ◌<◌, Bool, true, false, cond, ◌&&◌, ◌||◌, eqb, ltb, List, [], ◌∷◌, length, get_or, Ok, Err, Result, sym, refl, ap, ◌∙◌, subst, ap₂, pow-suc, arith, lit≤}
use lib.Bits.{bit_and, bit_or, or_zero_r}
use Rattle.std.proofs.Math.Bool.{and-or_distrib_left, and-true, or-false, or_assoc}
use Rattle.std.proofs.lemmas.List.{get_or_default}
use Rattle.std.proofs.lemmas.Bool.{and_parts, and_from, ltb-true, lt-ltb, eqb-true}
use Rattle.std.specs.List.{All, fold}
use Rattle.std.proofs.lemmas.List.Elements.{All-tail}
use Rattle.events.specs.Sets.{has, members_of}
use Rattle.events.proofs.SetLaws.{has-or, has-and, has_one, same_mask}
use Rattle.rules.specs.declared.Node.{Node}
use Rattle.rules.specs.declared.Node.TheVariants as node
use Rattle.rules.specs.trees.Trees.{Tree, leaf, fork, gives, polls}
use Rattle.rules.specs.trees.Layouts.{size_of}
use Rattle.events.proofs.MemberLaws.{Member, members-in, union_members}
use Rattle.rules.specs.watch.Holding.{tree_of, leads_to, polls_of}
use Rattle.sources.specs.declared.source.SourceRefusal.{SourceRefusal}
use Rattle.sources.specs.declared.source.SourceRefusal.TheVariants.{NothingWaiting}
use Rattle.sources.specs.Waiting.{first_of, polled}
use Rattle.fitting.specs.declared.plan.Plan.{Plan}
use Rattle.fitting.specs.Plans.{plan_rule, plan_trees}
use Rattle.fitting.specs.Reading.{tree_from, tree_at, sound_node, sound_at}
use Rattle.fitting.proofs.PlanLaws.{tree_is}
use Rattle.watch.specs.Polling.{head_of}

-- ---- sets with the same members, of any width

lt_pow : (n : ℕ) → n < 2 ^ n
lt_pow zero = omega arith
lt_pow (suc n) = let h = lt_pow n in rw pow-suc (omega arith)

bits_same : (a b : ℕ) → ((k : ℕ) → has a k ≡ has b k) → a ≡ b
bits_same a b h = let p = lt_pow (a + b) in same_mask (a + b) a b (omega arith) (omega arith) (λ k _. h k)

bit_or-assoc : (a b c : ℕ) → bit_or (bit_or a b) c ≡ bit_or a (bit_or b c)
bit_or-assoc a b c =
    bits_same _ _ (λ k.
    has-or (bit_or a b) c k ∙ ap (λ (x : Bool). x || has c k) (has-or a b k) ∙ or_assoc (has a k) (has b k) (has c k)
    ∙ sym (has-or a (bit_or b c) k ∙ ap (λ (x : Bool). has a k || x) (has-or b c k)))

-- ---- polls

-- a poll tells of the first event
pub asked : (events : List ℕ) (line : ℕ) (on : Bool) → line < 6 → Ok on ≡ polled (first_of events) line → on ≡ has (head_of events) line
asked [] line on l h =
    let a = lt-ltb line 6 l in
    let f : ◌≡◌ {A = Result Bool SourceRefusal} (Ok on) (Err NothingWaiting) = rw a at h in
    absurd cc
asked (event ∷ later) line on l h =
    let a = lt-ltb line 6 l in
    let f : ◌≡◌ {A = Result Bool SourceRefusal} (Ok on) (Ok (has event line)) = rw a at h in
    cc

or_absorb : (x y : Bool) → (y ≡ true → x ≡ true) → (x || y) ≡ x
or_absorb true y h = refl
or_absorb false true h = sym (h refl)
or_absorb false false h = refl

and-line : (x z : Bool) → (z ≡ true → x ≡ true) → (x && z) ≡ z
and-line true z h = refl
and-line false true h = h refl
and-line false false h = refl

and_no_line : (x z : Bool) → (z ≡ true → x ≡ false) → (x && z) ≡ false
and_no_line true true h = h refl
and_no_line true false h = refl
and_no_line false z h = refl

-- a line that is in a set already
pub or_present : (p line : ℕ) → has p line ≡ true → bit_or p (2 ^ line) ≡ p
or_present p line h =
    bits_same _ _ (λ k.
    has-or p (2 ^ line) k ∙ ap (λ (x : Bool). has p k || x) (has_one line k)
    ∙ or_absorb (has p k) (eqb k line) (λ t. ap (has p) (eqb-true k line t) ∙ h))

-- a line that was polled before is known
pub known_has : (e p line : ℕ) → has p line ≡ true → has (bit_and e p) line ≡ has e line
known_has e p line h = has-and e p line ∙ ap (λ (x : Bool). has e line && x) h ∙ and-true (has e line)

known_more : (e p line k : ℕ) → has (bit_and e (bit_or p (2 ^ line))) k ≡ ((has e k && has p k) || (has e k && has (2 ^ line) k))
known_more e p line k = has-and e (bit_or p (2 ^ line)) k ∙ ap (λ (x : Bool). has e k && x) (has-or p (2 ^ line) k) ∙ and-or_distrib_left (has e k) (has p k) (has (2 ^ line) k)

the_line : (e line k : ℕ) (b : Bool) → has e line ≡ b → has (2 ^ line) k ≡ true → has e k ≡ b
the_line e line k b h t = ap (has e) (eqb-true k line (sym (has_one line k) ∙ t)) ∙ h

-- one line more is known: it is on
pub seen_on : (e p p' on on' line : ℕ) → on ≡ bit_and e p → p' ≡ bit_or p (2 ^ line) → on' ≡ bit_or on (2 ^ line) → (b : Bool) → b ≡ has e line → b ≡ true → on' ≡ bit_and e p'
seen_on e p p' on on' line known asks is b q t =
    let h = sym q ∙ t in
    is ∙ ap (λ (x : ℕ). bit_or x (2 ^ line)) known
    ∙ sym (bits_same _ _ (λ k.
    known_more e p line k
    ∙ ap (λ (x : Bool). (has e k && has p k) || x) (and-line (has e k) (has (2 ^ line) k) (the_line e line k true h))
    ∙ sym (has-or (bit_and e p) (2 ^ line) k ∙ ap (λ (x : Bool). x || has (2 ^ line) k) (has-and e p k))))
    ∙ ap (bit_and e) (sym asks)

-- or off
pub seen_off : (e p p' on line : ℕ) → on ≡ bit_and e p → p' ≡ bit_or p (2 ^ line) → (b : Bool) → b ≡ has e line → b ≡ false → on ≡ bit_and e p'
seen_off e p p' on line known asks b q t =
    let h = sym q ∙ t in
    known
    ∙ sym (bits_same _ _ (λ k.
    known_more e p line k
    ∙ ap (λ (x : Bool). (has e k && has p k) || x) (and_no_line (has e k) (has (2 ^ line) k) (the_line e line k false h))
    ∙ or-false (has e k && has p k) ∙ sym (has-and e p k)))
    ∙ ap (bit_and e) (sym asks)

-- ---- sound nodes, read one node deeper

node_more : (f g : ℕ → Bool) → ((k : ℕ) → f k ≡ true → g k ≡ true) → (x : Node) → sound_node f x ≡ true → sound_node g x ≡ true
node_more f g up (node.Leaf set) h = refl
node_more f g up (node.Fork line on off) h =
    let a = and_parts (ltb line 6) (f on && f off) h in
    let b = and_parts (f on) (f off) a.1 in
    and_from (ltb line 6) (g on && g off) a.0 (and_from (g on) (g off) (up on b.0) (up off b.1))

node_same : (s t : ℕ → Tree) (f : ℕ → Bool) → ((k : ℕ) → f k ≡ true → s k ≡ t k) → (x : Node) → sound_node f x ≡ true → tree_from s x ≡ tree_from t x
node_same s t f same (node.Leaf set) h = refl
node_same s t f same (node.Fork line on off) h =
    let b = and_parts (f on) (f off) (and_parts (ltb line 6) (f on && f off) h).1 in
    ap₂ (λ (x y : Tree). fork line x y) (same on b.0) (same off b.1)

pub sound_more : (n : ℕ) (nodes : List Node) (place : ℕ) → sound_at n nodes place ≡ true → sound_at (suc n) nodes place ≡ true
unfolding sound_at
sound_more zero nodes place h = absurd cc
sound_more (suc n) nodes place h =
    let x = get_or nodes place (node.Leaf 0) in
    let p = and_parts (ltb place (length nodes)) (sound_node (sound_at n nodes) x) h in
    and_from (ltb place (length nodes)) (sound_node (sound_at (suc n) nodes) x) p.0
    (node_more (sound_at n nodes) (sound_at (suc n) nodes) (λ k. sound_more n nodes k) x p.1)

pub tree_more : (n : ℕ) (nodes : List Node) (place : ℕ) → sound_at n nodes place ≡ true → tree_at (suc n) nodes place ≡ tree_at n nodes place
unfolding sound_at tree_at
tree_more zero nodes place h = absurd cc
tree_more (suc n) nodes place h =
    let x = get_or nodes place (node.Leaf 0) in
    node_same (tree_at (suc n) nodes) (tree_at n nodes) (sound_at n nodes) (λ k. tree_more n nodes k) x
    (and_parts (ltb place (length nodes)) (sound_node (sound_at n nodes) x) h).1

-- ---- what stands at a sound place

-- a fork: its parts are sound too
pub record Forked (nodes : List Node) (place line on off : ℕ) : Type 0 where
  pub six : line < 6
  pub on_sound : sound_at 7 nodes on ≡ true
  pub off_sound : sound_at 7 nodes off ≡ true
  pub tree : tree_at 7 nodes place ≡ fork line (tree_at 7 nodes on) (tree_at 7 nodes off)

pub within : (nodes : List Node) (place : ℕ) → sound_at 7 nodes place ≡ true → place < length nodes
unfolding sound_at
within nodes place sound = ltb-true place (length nodes) (and_parts (ltb place (length nodes)) (sound_node (sound_at 6 nodes) (get_or nodes place (node.Leaf 0))) sound).0

-- the default of the reading does not matter
module _ (nodes : List Node) (place : ℕ) (d : Node) (sound : sound_at 7 nodes place ≡ true) where
  reads : (x : Node) → get_or nodes place d ≡ x → get_or nodes place (node.Leaf 0) ≡ x
  reads x e = get_or_default nodes place (node.Leaf 0) d (within nodes place sound) ∙ e

  pub at_leaf : (set : ℕ) → get_or nodes place d ≡ node.Leaf set → tree_at 7 nodes place ≡ leaf set
  unfolding tree_at
  at_leaf set e = ap (tree_from (tree_at 6 nodes)) (reads (node.Leaf set) e)

  pub at_fork : (line on off : ℕ) → get_or nodes place d ≡ node.Fork line on off → Forked nodes place line on off
  unfolding sound_at tree_at
  at_fork line on off e =
      let r = reads (node.Fork line on off) e in
      let s : sound_node (sound_at 6 nodes) (node.Fork line on off) ≡ true = subst (λ (x : Node). sound_node (sound_at 6 nodes) x ≡ true) r (and_parts (ltb place (length nodes)) (sound_node (sound_at 6 nodes) (get_or nodes place (node.Leaf 0))) sound).1 in
      let a = and_parts (ltb line 6) (sound_at 6 nodes on && sound_at 6 nodes off) s in
      let b = and_parts (sound_at 6 nodes on) (sound_at 6 nodes off) a.1 in
      record {
        six = ltb-true line 6 a.0;
        on_sound = sound_more 6 nodes on b.0;
        off_sound = sound_more 6 nodes off b.1;
        tree = ap (tree_from (tree_at 6 nodes)) r ∙ ap₂ (λ (x y : Tree). fork line x y) (sym (tree_more 6 nodes on b.0)) (sym (tree_more 6 nodes off b.1));
      }

-- a part of a fork is smaller than the fork
pub on_smaller : (nodes : List Node) (place line on off : ℕ) → Forked nodes place line on off → size_of (tree_at 7 nodes on) < size_of (tree_at 7 nodes place)
on_smaller nodes place line on off f = let e = ap size_of f.tree in omega (arith, e)

pub off_smaller : (nodes : List Node) (place line on off : ℕ) → Forked nodes place line on off → size_of (tree_at 7 nodes off) < size_of (tree_at 7 nodes place)
off_smaller nodes place line on off f = let e = ap size_of f.tree in omega (arith, e)

-- ---- a way down from a top

-- at a place of the way: what its tree gives is what the top's gives, and the lines polled so far with those that its tree polls are those of the whole way
pub record Way (nodes : List Node) (e top before place polled : ℕ) : Type 0 where
  pub sound : sound_at 7 nodes place ≡ true
  pub set : gives (tree_at 7 nodes place) e ≡ gives (tree_at 7 nodes top) e
  pub lines : bit_or polled (polls (tree_at 7 nodes place) e) ≡ bit_or before (polls (tree_at 7 nodes top) e)

pub way_starts : (nodes : List Node) (e top before : ℕ) → sound_at 7 nodes top ≡ true → Way nodes e top before top before
way_starts nodes e top before s = record { sound = s; set = refl; lines = refl }

-- one line more
more : (p p' line q r s : ℕ) → p' ≡ bit_or p (2 ^ line) → q ≡ bit_or (2 ^ line) r → bit_or p q ≡ s → bit_or p' r ≡ s
more p p' line q r s a b h = ap (λ (x : ℕ). bit_or x r) a ∙ bit_or-assoc p (2 ^ line) r ∙ ap (bit_or p) (sym b) ∙ h

module _ (nodes : List Node) (e top before place p : ℕ) (way : Way nodes e top before place p) where
  pub leaf_set : (set : ℕ) → tree_at 7 nodes place ≡ leaf set → set ≡ gives (tree_at 7 nodes top) e
  leaf_set set t = sym (ap (λ (x : Tree). gives x e) t) ∙ way.set

  pub leaf_lines : (set : ℕ) → tree_at 7 nodes place ≡ leaf set → p ≡ bit_or before (polls (tree_at 7 nodes top) e)
  leaf_lines set t = sym (or_zero_r p) ∙ ap (bit_or p) (sym (ap (λ (x : Tree). polls x e) t)) ∙ way.lines

  -- at a fork on a line the way goes on as the line is, on or off
  pub way_next : (line on off p' : ℕ) → Forked nodes place line on off → p' ≡ bit_or p (2 ^ line) → (b : Bool) → b ≡ has e line → Way nodes e top before (cond b on off) p'
  way_next line on off p' f asks b answer = go b answer
    where
      given : (b : Bool) → b ≡ has e line → gives (tree_at 7 nodes place) e ≡ cond b (gives (tree_at 7 nodes on) e) (gives (tree_at 7 nodes off) e)
      given b h = ap (λ (x : Tree). gives x e) f.tree ∙ ap (λ (c : Bool). cond c (gives (tree_at 7 nodes on) e) (gives (tree_at 7 nodes off) e)) (sym h)

      polled : (b : Bool) → b ≡ has e line → polls (tree_at 7 nodes place) e ≡ bit_or (2 ^ line) (cond b (polls (tree_at 7 nodes on) e) (polls (tree_at 7 nodes off) e))
      polled b h = ap (λ (x : Tree). polls x e) f.tree ∙ ap (λ (c : Bool). bit_or (2 ^ line) (cond c (polls (tree_at 7 nodes on) e) (polls (tree_at 7 nodes off) e))) (sym h)

      go : (b : Bool) → b ≡ has e line → Way nodes e top before (cond b on off) p'
      go true h = record { sound = f.on_sound; set = sym (given true h) ∙ way.set; lines = more p p' line _ _ _ asks (polled true h) way.lines }
      go false h = record { sound = f.off_sound; set = sym (given false h) ∙ way.set; lines = more p p' line _ _ _ asks (polled false h) way.lines }

-- ---- the trees of a plan

module _ (plan : Plan) (nodes : List Node) (q top : ℕ) (nodes_are : nodes ≡ plan.nodes.now) (top_is : top ≡ get_or plan.tops q 0) (state : q < length (plan_rule plan).states) where
  -- a state's tree is the one at its top
  at_top : tree_at 7 nodes top ≡ tree_of (plan_trees plan) q
  at_top = ap₂ (tree_at 7) nodes_are top_is ∙ sym (tree_is plan q state)

  -- it can be walked
  pub sound_top : sound_at 7 nodes top ≡ true
  sound_top = ap₂ (sound_at 7) nodes_are top_is ∙ plan.walkable q state

  -- what the walk gives and polls is what the state's tree does
  pub top_set : (e s set : ℕ) → set ≡ gives (tree_at 7 nodes top) e → bit_or s set ≡ bit_or s (gives (tree_of (plan_trees plan) q) e)
  top_set e s set h = ap (bit_or s) (h ∙ ap (λ (x : Tree). gives x e) at_top)

  pub top_lines : (e p p' : ℕ) → p' ≡ bit_or p (polls (tree_at 7 nodes top) e) → p' ≡ bit_or p (polls (tree_of (plan_trees plan) q) e)
  top_lines e p p' h = h ∙ ap (λ (x : Tree). bit_or p (polls x e)) at_top

-- ---- the trees of the held states, one after the other

-- with the members of a held set that are left: what was gathered so far, and then what they give, is what all held states give; and so with the lines
pub record Gathering (trees : List Tree) (held e : ℕ) (left : List ℕ) (set polled : ℕ) : Type 0 where
  pub members : All (Member held) left
  pub gathered : fold (λ u q. bit_or u (gives (tree_of trees q) e)) set left ≡ leads_to trees held e
  pub lines : fold (λ u q. bit_or u (polls (tree_of trees q) e)) polled left ≡ polls_of trees held e

-- at first all of them are left
pub gathering_starts : (trees : List Tree) (held e : ℕ) → held < 2 ^ 32 → Gathering trees held e (members_of held) 0 0
gathering_starts trees held e small = record {
  members = members-in held;
  gathered = sym (union_members 32 held (λ q. gives (tree_of trees q) e) (lit≤ tt) small);
  lines = sym (union_members 32 held (λ q. polls (tree_of trees q) e) (lit≤ tt) small);
}

-- one state more
pub gathering_more : (trees : List Tree) (held e q : ℕ) (left : List ℕ) (set set' polled polled' : ℕ) → Gathering trees held e (q ∷ left) set polled
    → set' ≡ bit_or set (gives (tree_of trees q) e) → polled' ≡ bit_or polled (polls (tree_of trees q) e) → Gathering trees held e left set' polled'
gathering_more trees held e q left set set' lines lines' so_far is asks = record {
  members = All-tail (Member held) q left so_far.members;
  gathered = ap (λ (s : ℕ). fold (λ u k. bit_or u (gives (tree_of trees k) e)) s left) is ∙ so_far.gathered;
  lines = ap (λ (s : ℕ). fold (λ u k. bit_or u (polls (tree_of trees k) e)) s left) asks ∙ so_far.lines;
}
