-- What a rank counts is what the events of the run tell of it.
use Rattle.circle_run.proofs.Prelude.{◌≡◌, ℕ, ◌+◌, ◌-◌, ◌^◌, ◌==◌, ◌≢◌, min, refl, sym, subst, ap, ◌∙◌, arith, Bool, true, false, cond, List, [], ◌∷◌, ◌++◌}
use Rattle.circle_run.proofs.Prelude.{map, length, length-append, set, count_by, eq-eqb, ne_eqb, sum_by-cons, sum_by-append, flat_map, sum_by, dite, ℕ_discrete}
use Rattle.circle_run.proofs.Prelude.{Event, Handle, Give, Take, Strings, Deed, give, take, event_of, withdraw, halt, stop, Move, handled, served, did, noted}
use Rattle.circle_run.proofs.Prelude.{Side, answer_of, events_of, Does, DoesAll, Stage, rank_side, side, Plays, events_of_all, handled_in, given_in, taken_in}
use Rattle.circle_run.proofs.Prelude.{moves_of, handled_by, given_by, taken_by, counted, counted_one, actor, handles, events_by, given_at, taken_at, share_in}
use Rattle.circle_run.proofs.Prelude.{Share, Options}
use Rattle.circle_run.proofs.Actors.{By, move_by}
use Rattle.circle_run.proofs.Answering.{answer_gives}

-- how many strings are handled, given and taken by an event, whosoever it is
abbrev handles_one : Event → ℕ
handles_one (Handle rank path kids) = 1
handles_one _ = 0

abbrev gives_so : Event → ℕ
gives_so (Give rank to count) = count
gives_so _ = 0

abbrev takes_so : Event → ℕ
takes_so (Take rank from count) = count
takes_so _ = 0

abbrev pub capped : ℕ → ℕ → ℕ → Share
capped a b c = record { handled = min a (2 ^ 64 - 1); given = min b (2 ^ 128 - 1); taken = min c (2 ^ 128 - 1) }

same_share : (a b c a' b' c' : ℕ) → a ≡ a' → b ≡ b' → c ≡ c' → capped a b c ≡ capped a' b' c'
same_share a b c a' b' c' e f g = ap (λ (x : ℕ). capped x b c) e ∙ ap (λ (x : ℕ). capped a' x c) f ∙ ap (λ (x : ℕ). capped a' b' x) g

plus_none : (a : ℕ) → a ≡ a + 0
plus_none a = omega arith

cap_more : (a k n : ℕ) → min (min a n + k) n ≡ min (a + k) n
cap_more a k n = omega arith

one_counted : (e : Event) (a b c : ℕ) → counted_one e (capped a b c) ≡ capped (a + handles_one e) (b + gives_so e) (c + takes_so e)
one_counted (Handle rank path kids) a b c =
    ap (λ (x : ℕ). record (capped a b c) { handled = x }) (cap_more a 1 (2 ^ 64 - 1))
    ∙ same_share (a + 1) b c (a + 1) (b + 0) (c + 0) refl (plus_none b) (plus_none c)
one_counted (Give rank to k) a b c =
    ap (λ (x : ℕ). record (capped a b c) { given = x }) (cap_more b k (2 ^ 128 - 1))
    ∙ same_share a (b + k) c (a + 0) (b + k) (c + 0) (plus_none a) refl (plus_none c)
one_counted (Take rank from k) a b c =
    ap (λ (x : ℕ). record (capped a b c) { taken = x }) (cap_more c k (2 ^ 128 - 1))
    ∙ same_share a b (c + k) (a + 0) (b + 0) (c + k) (plus_none a) (plus_none b) refl
one_counted _ a b c = same_share a b c (a + 0) (b + 0) (c + 0) (plus_none a) (plus_none b) (plus_none c)

all_counted : (es : List Event) (a b c : ℕ) → counted es (capped a b c) ≡ capped (a + sum_by handles_one es) (b + sum_by gives_so es) (c + sum_by takes_so es)
all_counted [] a b c = same_share a b c (a + 0) (b + 0) (c + 0) (plus_none a) (plus_none b) (plus_none c)
all_counted (e ∷ es) a b c =
    let more : (f : Event → ℕ) (x : ℕ) → (x + f e) + sum_by f es ≡ x + sum_by f (e ∷ es) = λ f x. (let s = sum_by-cons f e es in omega arith) in
    ap (counted es) (one_counted e a b c) ∙ all_counted es (a + handles_one e) (b + gives_so e) (c + takes_so e)
    ∙ same_share ((a + handles_one e) + sum_by handles_one es) ((b + gives_so e) + sum_by gives_so es) ((c + takes_so e) + sum_by takes_so es)
    (a + sum_by handles_one (e ∷ es)) (b + sum_by gives_so (e ∷ es)) (c + sum_by takes_so (e ∷ es)) (more handles_one a) (more gives_so b) (more takes_so c)

-- a number that an event tells of the rank r: of its own events that is this, and of those of others nothing
record Tells (f : ℕ → Event → ℕ) (g : Event → ℕ) : Type 0 where
  own : (r : ℕ) (e : Event) → actor e ≡ r → f r e ≡ g e
  other : (r : ℕ) (e : Event) → actor e ≢ r → f r e ≡ 0

own_told : (f : ℕ → Event → ℕ) (g : Event → ℕ) → Tells f g → (r : ℕ) (es : List Event) → By r es → sum_by (f r) es ≡ sum_by g es
own_told f g tells r [] by = refl
own_told f g tells r (e ∷ es) by = sum_by-cons (f r) e es ∙ ap (λ (x : ℕ). x + sum_by (f r) es) (tells.own r e by.0)
    ∙ ap (λ (x : ℕ). g e + x) (own_told f g tells r es by.1) ∙ sym (sum_by-cons g e es)

other_told : (f : ℕ → Event → ℕ) (g : Event → ℕ) → Tells f g → (w r : ℕ) (es : List Event) → w ≢ r → By w es → sum_by (f r) es ≡ 0
other_told f g tells w r [] ne by = refl
other_told f g tells w r (e ∷ es) ne by =
    let none : f r e ≡ 0 = tells.other r e (λ same. ne (sym by.0 ∙ same)) in
    let rest = other_told f g tells w r es ne by.1 in
    let s = sum_by-cons (f r) e es in omega arith

-- what all events tell of a rank is what its own events are
told_by_all : (f : ℕ → Event → ℕ) (g : Event → ℕ) → Tells f g → (r : ℕ) (moves : List (ℕ × Move))
    → sum_by (f r) (events_of_all moves) ≡ sum_by g (events_by r moves)
told_by_all f g tells r [] = refl
told_by_all f g tells r (m ∷ moves) =
    let here : List Event = events_of m.0 m.1 in
    let rest = told_by_all f g tells r moves in
    let split = sum_by-append (f r) here (events_of_all moves) in
    dite (ℕ_discrete m.0 r)
    (λ e.
    let mine : events_by r (m ∷ moves) ≡ here ++ events_by r moves =
    ap (λ (b : Bool). flat_map (events_of r) (cond b (m.1 ∷ []) [] ++ moves_of r moves)) (eq-eqb m.0 r e)
    ∙ ap (λ (q : ℕ). events_of q m.1 ++ events_by r moves) (sym e) in
    let own : sum_by (f r) here ≡ sum_by g here = own_told f g tells r here (subst (λ (q : ℕ). By q here) e (move_by m.0 m.1)) in
    let all = ap (sum_by g) mine in
    let parts = sum_by-append g here (events_by r moves) in
    omega arith)
    (λ ne.
    let mine : events_by r (m ∷ moves) ≡ events_by r moves =
    ap (λ (b : Bool). flat_map (events_of r) (cond b (m.1 ∷ []) [] ++ moves_of r moves)) (ne_eqb m.0 r ne) in
    let none : sum_by (f r) here ≡ 0 = other_told f g tells m.0 r here ne (move_by m.0 m.1) in
    let all = ap (sum_by g) mine in
    omega arith)

abbrev handled_at : ℕ → Event → ℕ
handled_at r e = cond (handles r e) 1 0

handled_own : (r : ℕ) (e : Event) → actor e ≡ r → handled_at r e ≡ handles_one e
handled_own r (Handle rank path kids) same = ap (λ (b : Bool). cond b 1 0) (eq-eqb rank r same)
handled_own r _ same = refl

handled_other : (r : ℕ) (e : Event) → actor e ≢ r → handled_at r e ≡ 0
handled_other r (Handle rank path kids) ne = ap (λ (b : Bool). cond b 1 0) (ne_eqb rank r ne)
handled_other r _ ne = refl

given_own : (r : ℕ) (e : Event) → actor e ≡ r → given_at r e ≡ gives_so e
given_own r (Give rank to k) same = ap (λ (b : Bool). cond b k 0) (eq-eqb rank r same)
given_own r _ same = refl

given_other : (r : ℕ) (e : Event) → actor e ≢ r → given_at r e ≡ 0
given_other r (Give rank to k) ne = ap (λ (b : Bool). cond b k 0) (ne_eqb rank r ne)
given_other r _ ne = refl

taken_own : (r : ℕ) (e : Event) → actor e ≡ r → taken_at r e ≡ takes_so e
taken_own r (Take rank from k) same = ap (λ (b : Bool). cond b k 0) (eq-eqb rank r same)
taken_own r _ same = refl

taken_other : (r : ℕ) (e : Event) → actor e ≢ r → taken_at r e ≡ 0
taken_other r (Take rank from k) ne = ap (λ (b : Bool). cond b k 0) (ne_eqb rank r ne)
taken_other r _ ne = refl

-- the share of a rank that began with nothing is what all events tell of it
pub share_told : (r : ℕ) (moves : List (ℕ × Move)) (s : Share) → s ≡ capped 0 0 0 → counted (events_by r moves) s ≡ share_in (events_of_all moves) r
share_told r moves s none =
    let es : List Event = events_of_all moves in
    let mine : List Event = events_by r moves in
    let h : sum_by (handled_at r) es ≡ sum_by handles_one mine =
    told_by_all handled_at handles_one (record { own = handled_own; other = handled_other }) r moves in
    let g : sum_by (given_at r) es ≡ sum_by gives_so mine = told_by_all given_at gives_so (record { own = given_own; other = given_other }) r moves in
    let t : sum_by (taken_at r) es ≡ sum_by takes_so mine = told_by_all taken_at takes_so (record { own = taken_own; other = taken_other }) r moves in
    ap (counted mine) none ∙ all_counted mine 0 0 0
    ∙ same_share (0 + sum_by handles_one mine) (0 + sum_by gives_so mine) (0 + sum_by takes_so mine) (count_by (handles r) es)
    (sum_by (given_at r) es) (sum_by (taken_at r) es) (omega arith) (omega arith) (omega arith)

answer_tells : (me : ℕ) (x : ℕ × Strings) → (handles_one (event_of me (answer_of x)) ≡ 0)
    × (gives_so (event_of me (answer_of x)) ≡ length x.1) × (takes_so (event_of me (answer_of x)) ≡ 0)
answer_tells me (to, []) = (refl, refl, refl)
answer_tells me (to, s ∷ batch) =
    let is : answer_of (to, s ∷ batch) ≡ give to (s ∷ batch) = answer_gives to (s ∷ batch) (omega arith) in
    (ap (λ (d : Deed). handles_one (event_of me d)) is, ap (λ (d : Deed). gives_so (event_of me d)) is, ap (λ (d : Deed). takes_so (event_of me d)) is)

-- a gift is no move by itself
abbrev Proper : Move → Type 0
Proper (did (give to batch)) = ⊥
Proper _ = Unit {0}

abbrev AllProper : List Move → Type 0
AllProper [] = Unit {0}
AllProper (m ∷ moves) = Proper m × AllProper moves

record MovesTell (me : ℕ) (moves : List Move) : Type 0 where
  handled : sum_by handles_one (flat_map (events_of me) moves) ≡ length (flat_map handled_in moves)
  given : sum_by gives_so (flat_map (events_of me) moves) ≡ length (flat_map given_in moves)
  taken : sum_by takes_so (flat_map (events_of me) moves) ≡ length (flat_map taken_in moves)

answers_tell : (me : ℕ) (answers : List (ℕ × Strings)) → let es = map (λ x. event_of me (answer_of x)) answers in
    (sum_by handles_one es ≡ 0) × (sum_by gives_so es ≡ length (flat_map (λ (x : ℕ × Strings). x.1) answers)) × (sum_by takes_so es ≡ 0)
answers_tell me [] = (refl, refl, refl)
answers_tell me (x ∷ answers) =
    let e : Event = event_of me (answer_of x) in
    let es : List Event = map (λ (y : ℕ × Strings). event_of me (answer_of y)) answers in
    let one = answer_tells me x in
    let rest = answers_tell me answers in (
      (let s = sum_by-cons handles_one e es in omega (arith, one.0, rest.0)),
      (let s = sum_by-cons gives_so e es in let l = length-append x.1 (flat_map (λ (y : ℕ × Strings). y.1) answers) in omega (arith, one.1, rest.1)),
      (let s = sum_by-cons takes_so e es in omega (arith, one.2, rest.2)),
    )

deed_tells : (me : ℕ) (d : Deed) → Proper (did d)
    → (sum_by handles_one (event_of me d ∷ []) ≡ 0) × (sum_by gives_so (event_of me d ∷ []) ≡ 0)
    × (sum_by takes_so (event_of me d ∷ []) ≡ length (taken_in (did d)))
deed_tells me (give to b) proper = absurd proper
deed_tells me (take from b) proper = (refl, refl, (let s = sum_by-cons takes_so (event_of me (take from b)) [] in omega arith))
deed_tells me _ proper = (refl, refl, refl)

move_tells : (me : ℕ) (m : Move) → Proper m
    → (sum_by handles_one (events_of me m) ≡ length (handled_in m)) × (sum_by gives_so (events_of me m) ≡ length (given_in m))
    × (sum_by takes_so (events_of me m) ≡ length (taken_in m))
move_tells me (handled path kids) proper = (refl, refl, refl)
move_tells me (served answers) proper = answers_tell me answers
move_tells me (did d) proper =
    let told = deed_tells me d proper in
    (told.0, told.1, told.2)
move_tells me (noted (withdraw from)) proper = (refl, refl, refl)
move_tells me (noted halt) proper = (refl, refl, refl)
move_tells me (noted stop) proper = (refl, refl, refl)

moves_tell : (me : ℕ) (moves : List Move) → AllProper moves → MovesTell me moves
moves_tell me [] proper = record { handled = refl; given = refl; taken = refl }
moves_tell me (m ∷ moves) (one, proper) =
    let rest = moves_tell me moves proper in
    let now = move_tells me m one in
    let here : List Event = events_of me m in
    let later : List Event = flat_map (events_of me) moves in
    record {
      handled = (let s = sum_by-append handles_one here later in let l = length-append (handled_in m) (flat_map handled_in moves) in
          let r = rest.handled in omega (arith, now.0));
      given = (let s = sum_by-append gives_so here later in let l = length-append (given_in m) (flat_map given_in moves) in
          let r = rest.given in omega (arith, now.1));
      taken = (let s = sum_by-append takes_so here later in let l = length-append (taken_in m) (flat_map taken_in moves) in
          let r = rest.taken in omega (arith, now.2));
    }

does_proper : (o : Options) (me : ℕ) (m : Move) (s s' : _) → Does o me m s s' → Proper m
does_proper o me (handled path kids) s s' does = tt
does_proper o me (served answers) s s' does = tt
does_proper o me (noted late) s s' does = tt
does_proper o me (did (give to b)) s s' does = does.queue
does_proper o me (did _) s s' does = tt

proper-append : (xs ys : List Move) → AllProper xs → AllProper ys → AllProper (xs ++ ys)
proper-append [] ys first next = next
proper-append (m ∷ xs) ys (one, first) next = (one, proper-append xs ys first next)

if_proper : (b : Bool) (m : Move) → Proper m → AllProper (cond b (m ∷ []) [])
if_proper true m proper = (proper, tt)
if_proper false m proper = tt

plays_proper : (o : Options) (r : ℕ) (moves : List (ℕ × Move)) (from to : Stage) → Plays o moves from to → AllProper (moves_of r moves)
plays_proper o r [] from to plays = tt
plays_proper o r (m ∷ moves) from to (x, t, does, plays) =
    proper-append (cond (m.0 == r) (m.1 ∷ []) []) (moves_of r moves)
    (if_proper (m.0 == r) m.1 (does_proper o m.0 m.1 (side (rank_side from m.0) from.told) (side x t) does))
    (plays_proper o r moves (record { ranks = set from.ranks m.0 x; told = t }) to plays)

-- the share of a rank that began with nothing counts its moves
pub share_counts : (o : Options) (r : ℕ) (moves : List (ℕ × Move)) (from to : Stage) (s : Share) → Plays o moves from to → s ≡ capped 0 0 0
    → counted (events_by r moves) s ≡ capped (handled_by r moves) (given_by r moves) (taken_by r moves)
share_counts o r moves from to s plays none =
    let mine : List Event = events_by r moves in
    let tell = moves_tell r (moves_of r moves) (plays_proper o r moves from to plays) in
    let h = tell.handled in
    let g = tell.given in
    let t = tell.taken in
    ap (counted mine) none ∙ all_counted mine 0 0 0
    ∙ same_share (0 + sum_by handles_one mine) (0 + sum_by gives_so mine) (0 + sum_by takes_so mine) (handled_by r moves) (given_by r moves)
    (taken_by r moves) (omega arith) (omega arith) (omega arith)

all_proper : (o : Options) (me : ℕ) (moves : List Move) (s s' : Side) → DoesAll o me moves s s' → AllProper moves
all_proper o me [] s s' does = tt
all_proper o me (m ∷ moves) s s' (mid, one, rest) = (does_proper o me m s mid one, all_proper o me moves mid s' rest)

-- the same of a rank's own moves, whatever the board tells
pub share_alone : (o : Options) (me : ℕ) (moves : List Move) (s s' : Side) (share : Share) → DoesAll o me moves s s' → share ≡ capped 0 0 0
    → counted (flat_map (events_of me) moves) share
    ≡ capped (length (flat_map handled_in moves)) (length (flat_map given_in moves)) (length (flat_map taken_in moves))
share_alone o me moves s s' share does none =
    let events : List Event = flat_map (events_of me) moves in
    let tell = moves_tell me moves (all_proper o me moves s s' does) in
    let h = tell.handled in
    let g = tell.given in
    let t = tell.taken in
    ap (counted events) none ∙ all_counted events 0 0 0
    ∙ same_share (0 + sum_by handles_one events) (0 + sum_by gives_so events) (0 + sum_by takes_so events) (length (flat_map handled_in moves))
    (length (flat_map given_in moves)) (length (flat_map taken_in moves)) (omega arith) (omega arith) (omega arith)
