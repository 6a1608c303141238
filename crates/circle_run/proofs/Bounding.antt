-- A rank handles no more than its number of strings, and counts them.
use Rattle.circle_run.proofs.Prelude.{◌≡◌, ℕ, ◌+◌, ◌-◌, ◌^◌, ◌<◌, ◌≤◌, ◌⊎◌, min, refl, sym, subst, ap, ◌∙◌, arith, Bool, true, false, List, [], ◌∷◌, map}
use Rattle.circle_run.proofs.Prelude.{length, length-append, Option, Some, None, IfSome, if◌then◌else◌, flat_map, leb-true, leb-false, Strings, Shown, Told}
use Rattle.circle_run.proofs.Prelude.{Deed, ask, give, refuse, take, take_none, pass, restart, conclude, see_over, event_of, withdraw, halt, stop, Log, Move}
use Rattle.circle_run.proofs.Prelude.{handled, served, did, noted, Side, answer_of, events_of, MayHandle, Does, counted, counted_one, is_due, DoesAll, Went}
use Rattle.circle_run.proofs.Prelude.{Bounded, Share, Options, Rank}
use Rattle.circle_run.specs.Ranks.{side}
use Rattle.circle_run.proofs.Asked.{true_not_false}
use Rattle.circle_run.proofs.Stepped.{counted_then}

pub if_some : (s : Option ℕ) (P : ℕ → Type 0) → ((k : ℕ) → s ≡ Some k → P k) → IfSome s P
if_some None P f = tt
if_some (Some k) P f = f k refl

pub from_some : (s : Option ℕ) (P : ℕ → Type 0) (k : ℕ) → s ≡ Some k → IfSome s P → P k
from_some s P k e all = (let Q : Option ℕ → Type 0 = λ o. IfSome o P in subst Q e all)

-- the count of a rank, and its bound
abbrev Counted : ℕ → Log → Type 0
Counted count log = count ≡ min (length log) (2 ^ 64 - 1)

one_answer : (b : Bool) (me to : ℕ) (batch : Strings) (s : Share)
    → (counted_one (event_of me (if b then refuse to else give to batch)) s).handled ≡ s.handled
one_answer true me to batch s = refl
one_answer false me to batch s = refl

all_answers : (me : ℕ) (answers : List (ℕ × Strings)) (s : Share)
    → (counted (map (λ (x : ℕ × Strings). event_of me (answer_of x)) answers) s).handled ≡ s.handled
all_answers me [] s = refl
all_answers me (x ∷ answers) s = all_answers me answers (counted_one (event_of me (answer_of x)) s) ∙ one_answer _ me x.0 x.1 s

one_deed : (me : ℕ) (d : Deed) (s : Share) → (counted (event_of me d ∷ []) s).handled ≡ s.handled
one_deed me (ask v) s = refl
one_deed me (give to b) s = refl
one_deed me (refuse to) s = refl
one_deed me (take from b) s = refl
one_deed me (take_none from) s = refl
one_deed me (pass c) s = refl
one_deed me restart s = refl
one_deed me conclude s = refl
one_deed me see_over s = refl

same_count : (a b : ℕ) (l m : Log) → b ≡ a → m ≡ l → Counted a l → Counted b m
same_count a b l m count logs c = count ∙ c ∙ ap (λ (x : Log). min (length x) (2 ^ 64 - 1)) (sym logs)

one_counts : (o : Options) (me : ℕ) (m : Move) (s s' : Side) (x : Share) → Does o me m s s' → Counted x.handled s.log
    → Counted (counted (events_of me m) x).handled s'.log
one_counts o me (handled path kids) s s' x does c =
    let l : length s'.log ≡ length s.log + 1 = ap (λ (z : Side). length z.log) does.after ∙ length-append s.log ((path, kids) ∷ []) in
    omega (arith, l, c)
one_counts o me (served answers) s s' x does c = same_count x.handled _ s.log s'.log (all_answers me answers x) does.log c
one_counts o me (did d) s s' x does c = same_count x.handled _ s.log s'.log (one_deed me d x) does.log c
one_counts o me (noted (withdraw from)) s s' x does c = same_count x.handled _ s.log s'.log refl (ap (λ (z : Side). z.log) does.after) c
one_counts o me (noted halt) s s' x does c = same_count x.handled _ s.log s'.log refl (ap (λ (z : Side). z.log) does.after) c
one_counts o me (noted stop) s s' x does c = same_count x.handled _ s.log s'.log refl (ap (λ (z : Side). z.log) does.after) c

moves_count : (o : Options) (me : ℕ) (moves : List Move) (s s' : Side) (x : Share) → DoesAll o me moves s s' → Counted x.handled s.log
    → Counted (counted (flat_map (events_of me) moves) x).handled s'.log
moves_count o me [] s s' x same c = subst (λ (z : Side). Counted x.handled z.log) (sym same) c
moves_count o me (m ∷ moves) s s' x (mid, one, rest) c =
    ap (λ (y : Share). y.handled) (counted_then (events_of me m) (flat_map (events_of me) moves) x)
    ∙ moves_count o me moves mid s' (counted (events_of me m) x) rest (one_counts o me m s mid x one c)

same_bound : (k : ℕ) (l m : Log) → m ≡ l → length l ≤ k → length m ≤ k
same_bound k l m e h = (let a = ap length e in omega (arith, a, h))

one_bound : (o : Options) (me k : ℕ) (m : Move) (s s' : Side) → o.stop_after ≡ Some k → Does o me m s s' → length s.log ≤ k → length s'.log ≤ k
one_bound o me k (handled path kids) s s' e does h =
    let l : length s'.log ≡ length s.log + 1 = ap (λ (z : Side). length z.log) does.after ∙ length-append s.log ((path, kids) ∷ []) in
    let may = from_some o.stop_after (λ (j : ℕ). length s.log < j) k e does.may in
    omega (arith, l, may)
one_bound o me k (served answers) s s' e does h = same_bound k s.log s'.log does.log h
one_bound o me k (did d) s s' e does h = same_bound k s.log s'.log does.log h
one_bound o me k (noted late) s s' e does h = same_bound k s.log s'.log (ap (λ (z : Side). z.log) does.after) h

moves_bound : (o : Options) (me k : ℕ) (moves : List Move) (s s' : Side) → o.stop_after ≡ Some k → DoesAll o me moves s s' → length s.log ≤ k
    → length s'.log ≤ k
moves_bound o me k [] s s' e same h = subst (λ (z : Side). length z.log ≤ k) (sym same) h
moves_bound o me k (m ∷ moves) s s' e (mid, one, rest) h = moves_bound o me k moves mid s' e rest (one_bound o me k m s mid e one h)

-- a rank that has not handled all that it may
not_due : (s : Option ℕ) (count strings : ℕ) → count ≡ min strings (2 ^ 64 - 1) → IfSome s (λ k. k ≤ 2 ^ 64 - 1) → IfSome s (λ k. strings ≤ k)
    → is_due s count ≡ false → IfSome s (λ k. strings < k)
not_due None count strings c few most rest = tt
not_due (Some k) count strings c few most rest = (let h : count < k = leb-false k count rest in omega (arith, c, few, most, h))

due : (s : Option ℕ) (count strings : ℕ) → count ≡ min strings (2 ^ 64 - 1) → IfSome s (λ k. strings ≤ k) → is_due s count ≡ true → s ≡ Some strings
due None count strings c most all = (let f : false ≡ true = all in cc)
due (Some k) count strings c most all = (let h : k ≤ count = leb-true k count all in ap Some (omega (arith, c, most, h)))

module _ {J S T : Type 0} (log : J → Log) (shows : S → Shown) where
  pub may_handle : (r : Rank J S T) → Bounded log shows r → IfSome r.options.stop_after (λ k. k ≤ 2 ^ 64 - 1)
      → is_due r.options.stop_after r.book.share.handled ≡ false → MayHandle r.options (length (log r.job))
  may_handle r b few rest = not_due r.options.stop_after r.book.share.handled (length (log r.job)) b.counted few b.most rest

  pub has_all : (r : Rank J S T) → Bounded log shows r → is_due r.options.stop_after r.book.share.handled ≡ true
      → r.options.stop_after ≡ Some (length (log r.job))
  has_all r b all = due r.options.stop_after r.book.share.handled (length (log r.job)) b.counted b.most all

  -- who has not handled all that it may has not told all to halt
  pub not_halted : (r : Rank J S T) → Bounded log shows r → IfSome r.options.stop_after (λ k. k ≤ 2 ^ 64 - 1)
      → is_due r.options.stop_after r.book.share.handled ≡ false → (shows r.seat).halted ≡ true → ⊥
  not_halted r b few rest halted =
      let h = from_some r.options.stop_after (λ k. length (log r.job) < k) (length (log r.job)) (b.halts halted) (may_handle r b few rest) in
      omega (arith, h)

module _ {J S T : Type 0} (log : J → Log) (shows : S → Shown) where
  pub bounded_as : (r r' : Rank J S T) → r'.book.share ≡ r.book.share → r'.job ≡ r.job → r'.seat ≡ r.seat → r'.options ≡ r.options → r'.stopped ≡ r.stopped
      → Bounded log shows r → Bounded log shows r'
  bounded_as r r' share job seat options stopped b = record {
    counted = ap (λ (s : Share). s.handled) share ∙ b.counted ∙ ap (λ (j : J). min (length (log j)) (2 ^ 64 - 1)) (sym job);
    most = subst (λ (o : Options). IfSome o.stop_after (λ k. length (log r'.job) ≤ k)) (sym options)
        (subst (λ (j : J). IfSome r.options.stop_after (λ k. length (log j) ≤ k)) (sym job) b.most);
    halts = λ h. ap (λ (o : Options). o.stop_after) options ∙ b.halts (ap (λ (s : S). (shows s).halted) (sym seat) ∙ h)
        ∙ ap (λ (j : J). Some (length (log j))) (sym job);
    stops = λ h. subst (λ (s : S). ((shows s).halted ≡ true) ⊎ ((shows s).knows_halt ≡ true)) (sym seat) (b.stops (sym stopped ∙ h));
  }

module _ {J S T P Q : Type 0} (log : J → Log) (plain : J → Q) (shows : S → Shown) (tells : P → Option Told) (seats : P → S → Type 0) where
  -- moves keep the bound
  pub bounded : (A : List Move → Type 0) (r : Rank J S T) (p : P) (r' : Rank J S T) (p' : P) → r'.options ≡ r.options
      → Went log plain shows tells seats A r p r' p' → Bounded log shows r
      → ((shows r'.seat).halted ≡ true → r'.options.stop_after ≡ Some (length (log r'.job)))
      → (r'.stopped ≡ true → ((shows r'.seat).halted ≡ true) ⊎ ((shows r'.seat).knows_halt ≡ true)) → Bounded log shows r'
  bounded A r p r' p' options w b halts stops =
      let from : Side = side log plain shows tells seats r p in
      let to : Side = side log plain shows tells seats r' p' in
      record {
        counted = ap (λ (s : Share). s.handled) w.share ∙ moves_count r.options r.me w.moves from to r.book.share w.does b.counted;
        most = if_some r'.options.stop_after (λ k. length (log r'.job) ≤ k) (λ k e.
            (let was : r.options.stop_after ≡ Some k = ap (λ (o : Options). o.stop_after) (sym options) ∙ e in
            moves_bound r.options r.me k w.moves from to was w.does
            (from_some r.options.stop_after (λ j. length (log r.job) ≤ j) k was b.most)));
        halts = halts;
        stops = stops;
      }

  -- a rank that had not handled all that it may, and told nobody to halt, may have done so by what it did
  pub has_all_after : (A : List Move → Type 0) (r : Rank J S T) (p : P) (r' : Rank J S T) (p' : P) → r'.options ≡ r.options
      → Went log plain shows tells seats A r p r' p' → Bounded log shows r → IfSome r.options.stop_after (λ k. k ≤ 2 ^ 64 - 1)
      → is_due r.options.stop_after r.book.share.handled ≡ false → (shows r'.seat).halted ≡ (shows r.seat).halted → r'.stopped ≡ false
      → is_due r'.options.stop_after r'.book.share.handled ≡ true → r'.options.stop_after ≡ Some (length (log r'.job))
  has_all_after A r p r' p' options w b few early same going all =
      has_all log shows r' (bounded A r p r' p' options w b (λ halted. absurd (not_halted log shows r b few early (sym same ∙ halted)))
      (λ stopped. absurd (true_not_false r'.stopped stopped going))) all
