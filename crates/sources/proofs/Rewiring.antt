-- Each line of an event through a wiring, and what follows of whole events.
use Rattle.std.proofs.Common.{◌≡◌, ℕ, zero, suc, ◌<◌, Bool, true, false, cond, ltb, List, [], ◌∷◌, length, get_or, is_ok, Ok, Err, Decides, Result, sym, refl, ap, ◌∙◌, ap₂, arith}
use Rattle.std.proofs.lemmas.List.{get_or-map, length-map}
use Rattle.std.proofs.lemmas.Bool.{lt-ltb, ltb-true, and_from, and_parts}
use Rattle.events.specs.Sets.{has}
use Rattle.events.proofs.SetLaws.{has_none, has-set_of, set_of_small, same_mask}
use Rattle.sources.specs.declared.source.SourceRefusal.{SourceRefusal}
use Rattle.sources.specs.declared.source.SourceRefusal.TheVariants.{NothingWaiting}
use Rattle.sources.specs.declared.wiring.WiringRefusal.{WiringRefusal}
use Rattle.sources.specs.declared.wiring.WiringRefusal.TheVariants.{OutOfRange}
use Rattle.sources.specs.Waiting.{AllEvents, first_of, polled}
use Rattle.sources.specs.Wirings.{turned_by, rewired, rewired_all, straight, through, IsWiring, all_lines, wiring_fits, checked_wiring, wired_events}

-- ---- one line

pub rewired-line : (entries : List ℕ) (turned event line : ℕ) → line < 6 → has (rewired entries turned event) line ≡ turned_by (has event (get_or entries line 0)) (has turned line)
unfolding rewired
rewired-line entries turned event line h = has-set_of 6 _ line h

pub rewired_lt : (entries : List ℕ) (turned event : ℕ) → rewired entries turned event < 64
unfolding rewired
rewired_lt entries turned event = set_of_small 6 _

-- a poll below, and the poll above
pub poll_through : (entries : List ℕ) (turned : ℕ) (events : List ℕ) (line : ℕ) (on turn shown : Bool) → get_or entries line 0 < 6 → line < 6
    → Ok on ≡ polled (first_of events) (get_or entries line 0) → turn ≡ has turned line → shown ≡ turned_by on turn
    → Ok shown ≡ polled (first_of (rewired_all entries turned events)) line
poll_through entries turned [] line on turn shown n l e b s =
    let a = lt-ltb (get_or entries line 0) 6 n in
    let f : ◌≡◌ {A = Result Bool SourceRefusal} (Ok on) (Err NothingWaiting) = rw a at e in
    let z : ◌≡◌ {A = ℕ} 0 1 = cc in absurd (omega arith)
poll_through entries turned (event ∷ later) line on turn shown n l e t s =
    let a = lt-ltb (get_or entries line 0) 6 n in
    let b = lt-ltb line 6 l in
    let f : ◌≡◌ {A = Result Bool SourceRefusal} (Ok on) (Ok (has event (get_or entries line 0))) = rw a at e in
    let g : on ≡ has event (get_or entries line 0) = cc in
    rw b (ap Ok (s ∙ (ap₂ turned_by g t ∙ sym (rewired-line entries turned event line l))))

-- ---- whether a wiring fits

lines_named : (entries : List ℕ) → all_lines entries ≡ true → (k : ℕ) → k < length entries → get_or entries k 0 < 6
lines_named [] h k l = absurd (omega arith)
lines_named (entry ∷ entries) h zero l = ltb-true entry 6 (and_parts (ltb entry 6) (all_lines entries) h).0
lines_named (entry ∷ entries) h (suc k) l = lines_named entries (and_parts (ltb entry 6) (all_lines entries) h).1 k (omega arith)

named_lines : (entries : List ℕ) → ((k : ℕ) → k < length entries → get_or entries k 0 < 6) → all_lines entries ≡ true
named_lines [] h = refl
named_lines (entry ∷ entries) h =
    and_from (ltb entry 6) (all_lines entries) (lt-ltb entry 6 (h 0 (omega arith))) (named_lines entries (λ k l. h (suc k) (omega arith)))

fits_is : (entries : List ℕ) (turned : ℕ) → length entries ≡ 6 → Decides (wiring_fits entries turned) (IsWiring entries turned)
fits_is entries turned six = (
  (λ h. let p = and_parts (all_lines entries) (ltb turned 64) h in record { six = six; named = λ k l. lines_named entries p.0 k (omega arith); lines = ltb-true turned 64 p.1 }),
  (λ f. and_from (all_lines entries) (ltb turned 64) (named_lines entries (λ k l. f.named k (omega arith))) (lt-ltb turned 64 f.lines)),
)

abbrev told : Bool → Result (Unit {0}) WiringRefusal
told b = cond b (Ok tt) (Err OutOfRange)

ok_cond : (b : Bool) → is_ok (told b) ≡ b
ok_cond true = refl
ok_cond false = refl

pub wiring_exact : (entries : List ℕ) (turned : ℕ) (r : Result (Unit {0}) WiringRefusal) → length entries ≡ 6 → r ≡ checked_wiring entries turned → Decides (is_ok r) (IsWiring entries turned)
wiring_exact entries turned r six e =
    let s = ap is_ok e ∙ ok_cond (wiring_fits entries turned) in
    let d = fits_is entries turned six in
    ((λ h. d.0 (sym s ∙ h)), (λ f. s ∙ d.1 f))

pub taken_fits : (entries : List ℕ) (turned : ℕ) → wiring_fits entries turned ≡ true → Ok tt ≡ checked_wiring entries turned
taken_fits entries turned h = sym (ap told h)

pub refused_fits : (entries : List ℕ) (turned : ℕ) → wiring_fits entries turned ≡ false → Err OutOfRange ≡ checked_wiring entries turned
refused_fits entries turned h = sym (ap told h)

-- ---- two wirings, and the straight one

turned_off : (on : Bool) → turned_by on false ≡ on
turned_off true = refl
turned_off false = refl

turned_twice : (on turn : Bool) → turned_by (turned_by on turn) turn ≡ on
turned_twice true true = refl
turned_twice true false = refl
turned_twice false true = refl
turned_twice false false = refl

turned_assoc : (on a b : Bool) → turned_by (turned_by on a) b ≡ turned_by on (turned_by a b)
turned_assoc true true true = refl
turned_assoc true true false = refl
turned_assoc true false true = refl
turned_assoc true false false = refl
turned_assoc false a b = refl

straight_is : (k : ℕ) → k < 6 → get_or straight k 0 ≡ k
straight_is zero h = refl
straight_is (suc zero) h = refl
straight_is (suc (suc zero)) h = refl
straight_is (suc (suc (suc zero))) h = refl
straight_is (suc (suc (suc (suc zero)))) h = refl
straight_is (suc (suc (suc (suc (suc zero))))) h = refl
straight_is (suc (suc (suc (suc (suc (suc k)))))) h = absurd (omega arith)

straight_line : (turned event k : ℕ) → k < 6 → has (rewired straight turned event) k ≡ turned_by (has event k) (has turned k)
straight_line turned event k h = rewired-line straight turned event k h ∙ ap (λ (i : ℕ). turned_by (has event i) (has turned k)) (straight_is k h)

straight_event : (event : ℕ) → event < 64 → rewired straight 0 event ≡ event
straight_event event h =
    same_mask 6 _ event (rewired_lt straight 0 event) h
    (λ k l. straight_line 0 event k l ∙ (ap (turned_by (has event k)) (has_none k) ∙ turned_off (has event k)))

cancel_event : (turned event : ℕ) → event < 64 → rewired straight turned (rewired straight turned event) ≡ event
cancel_event turned event h =
    same_mask 6 _ event (rewired_lt straight turned (rewired straight turned event)) h
    (λ k l. straight_line turned (rewired straight turned event) k l
    ∙ (ap (λ (on : Bool). turned_by on (has turned k)) (straight_line turned event k l) ∙ turned_twice (has event k) (has turned k)))

compose_event : (upper : List ℕ) (t : ℕ) (lower : List ℕ) (u event : ℕ) → length upper ≡ 6 → ((k : ℕ) → k < 6 → get_or upper k 0 < 6)
    → rewired upper t (rewired lower u event) ≡ rewired (through upper lower) (rewired upper t u) event
compose_event upper t lower u event six named =
    same_mask 6 _ _ (rewired_lt upper t (rewired lower u event)) (rewired_lt (through upper lower) (rewired upper t u) event) (λ k l. same k l)
  where
    same : (k : ℕ) → k < 6 → has (rewired upper t (rewired lower u event)) k ≡ has (rewired (through upper lower) (rewired upper t u) event) k
    same k l =
        let p : ℕ = get_or upper k 0 in
        let entry : get_or (through upper lower) k 0 ≡ get_or lower p 0 = get_or-map (λ (e : ℕ). get_or lower e 0) upper k 0 0 (omega arith) in
        rewired-line upper t (rewired lower u event) k l
        ∙ (ap (λ (on : Bool). turned_by on (has t k)) (rewired-line lower u event p (named k l))
        ∙ (turned_assoc (has event (get_or lower p 0)) (has u p) (has t k)
        ∙ sym (rewired-line (through upper lower) (rewired upper t u) event k l
        ∙ ap₂ (λ (i : ℕ) (turn : Bool). turned_by (has event i) turn) entry (rewired-line upper t u k l))))

-- ---- the same of lists

pub straight_events : (events : List ℕ) → AllEvents events → rewired_all straight 0 events ≡ events
straight_events [] h = refl
straight_events (event ∷ later) h = ap₂ ◌∷◌ (straight_event event h.0) (straight_events later h.1)

pub cancel_events : (turned : ℕ) (events : List ℕ) → AllEvents events → rewired_all straight turned (rewired_all straight turned events) ≡ events
cancel_events turned [] h = refl
cancel_events turned (event ∷ later) h = ap₂ ◌∷◌ (cancel_event turned event h.0) (cancel_events turned later h.1)

pub compose_events : (upper : List ℕ) (t : ℕ) (lower : List ℕ) (u : ℕ) → length upper ≡ 6 → ((k : ℕ) → k < 6 → get_or upper k 0 < 6) → (events : List ℕ)
    → rewired_all upper t (rewired_all lower u events) ≡ rewired_all (through upper lower) (rewired upper t u) events
compose_events upper t lower u six named [] = refl
compose_events upper t lower u six named (event ∷ later) =
    ap₂ ◌∷◌ (compose_event upper t lower u event six named) (compose_events upper t lower u six named later)

-- the composition of two wirings fits
pub compose_fits : (upper : List ℕ) (t : ℕ) (lower : List ℕ) (u : ℕ) → IsWiring upper t → IsWiring lower u → IsWiring (through upper lower) (rewired upper t u)
compose_fits upper t lower u f g = record {
  six = length-map upper (λ (e : ℕ). get_or lower e 0) ∙ f.six;
  named = λ k l. let e = get_or-map (λ (e : ℕ). get_or lower e 0) upper k 0 0 (omega (arith, f.six)) in rw e (g.named (get_or upper k 0) (f.named k l));
  lines = rewired_lt upper t u;
}

-- ---- what a making means

pub fitted_means : (entries : List ℕ) (turned : ℕ) (events : List ℕ) → AllEvents events → (shown : List ℕ) (set : ℕ)
    → (wiring_fits entries turned ≡ true → (shown ≡ entries) × (set ≡ turned)) → (wiring_fits entries turned ≡ false → (shown ≡ straight) × (set ≡ 0))
    → rewired_all shown set events ≡ wired_events entries turned events
fitted_means entries turned events small shown set fits other = go (wiring_fits entries turned) refl
  where
    go : (b : Bool) → wiring_fits entries turned ≡ b → rewired_all shown set events ≡ wired_events entries turned events
    go true e = let s = fits e in rw (s.0, s.1, e)
    go false e = let s = other e in rw (s.0, s.1, e) (straight_events events small)
