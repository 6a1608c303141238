-- What steps of a rank come to, one after the other.
use Rattle.circle_run.proofs.Prelude.{◌≡◌, ◌≢◌, ℕ, ◌<◌, refl, sym, subst, ap, ◌∙◌, arith, Bool, true, false, List, [], ◌∷◌, ◌++◌, length, append_assoc}
use Rattle.circle_run.proofs.Prelude.{append-nil, Option, Some, None, if◌then◌else◌, flat_map, darker, Colour, Black, Event, TakeNone, Lcg, Strings, Batches}
use Rattle.circle_run.proofs.Prelude.{Shown, is_served, mixed, token_of, victim_of, Told, place, asked, is_stopped, Waits, with_service, Did, Handled, Acted}
use Rattle.circle_run.proofs.Prelude.{Waited, Stopped, Deed, event_of, Tells, Stays, Late, withdraw, TellsLate, AgreesIfTold, Log, Move, handled, did, noted}
use Rattle.circle_run.proofs.Prelude.{Side, DoesDeed, MayNote, MayHandle, noted_of, events_of, IsLive, NobodyAsks, counted, counted_one, Writes, DoesAll, Knows}
use Rattle.circle_run.proofs.Prelude.{ServesNone, Went, Came, HandledNewest, Options, Share, Rank}
use Rattle.std.proofs.lemmas.Grind.{flat_map-append}
use Rattle.circle_run.specs.Ranks.{side}
use Rattle.circle_run.proofs.Known.{knows_queue}

abbrev made : Strings → Log → Lcg → Option Batches → Option Told → Side
made queue log draws batches told = record { queue = queue; log = log; draws = draws; batches = batches; told = told }

pub does_then : (o : Options) (me : ℕ) (xs ys : List Move) (a b c : Side) → DoesAll o me xs a b → DoesAll o me ys b c → DoesAll o me (xs ++ ys) a c
does_then o me [] ys a b c first second = subst (λ (s : Side). DoesAll o me ys s c) first second
does_then o me (x ∷ xs) ys a b c first second = (first.0, first.1, does_then o me xs ys first.0 b c first.2 second)

pub counted_then : (xs ys : List Event) (s : Share) → counted (xs ++ ys) s ≡ counted ys (counted xs s)
counted_then [] ys s = refl
counted_then (x ∷ xs) ys s = counted_then xs ys (counted_one x s)

pub kept_then : (trace : Bool) (xs ys : List Event) → (if trace then (xs ++ ys) else []) ≡ (if trace then xs else []) ++ (if trace then ys else [])
kept_then true xs ys = refl
kept_then false xs ys = refl

pub kept_none : (trace : Bool) (xs : List Event) → xs ≡ xs ++ (if trace then [] else [])
kept_none true xs = sym (append-nil xs)
kept_none false xs = sym (append-nil xs)

pub mixed_is : (s : Shown) (c h : Colour) → s.colour ≡ c → s.here ≡ Some h → mixed s ≡ darker c h
mixed_is s c h e f = ap (λ (x : Colour). darker x (token_of s)) e ∙ ap (λ (o : Option Colour). darker c (elim o [ None ↦ Black | Some z ↦ z ])) f

pub victim_is : (s : Shown) (v : ℕ) → s.asked ≡ Some v → victim_of s ≡ v
victim_is s v e = ap (λ (o : Option ℕ). elim o [ None ↦ 0 | Some z ↦ z ]) e

pub tells_as : (a b : ℕ) (c d : Deed) (t t' : Option Told) → a ≡ b → c ≡ d → Tells a c t t' → Tells b d t t'
tells_as a b c d t t' e f told = subst (λ (x : Deed). Tells b x t t') f (subst (λ (x : ℕ). Tells x c t t') e told)

pub late_as : (a b : ℕ) (c d : Late) (t t' : Option Told) → a ≡ b → c ≡ d → TellsLate a c t t' → TellsLate b d t t'
late_as a b c d t t' e f told = subst (λ (x : Late). TellsLate b x t t') f (subst (λ (x : ℕ). TellsLate x c t t') e told)

pub stays_same : (F : Told → Type 0) (a b : Option Told) → Stays F a b → b ≡ a
stays_same F None b e = e
stays_same F (Some t) b e = e.1

pub live_told : (told : Option Told) (s : Shown) (me : ℕ) → AgreesIfTold told s → s.number ≡ me → s.ended ≡ false → IsLive me told
live_told None s me agrees number live = tt
live_told (Some t) s me agrees number live = subst (λ (k : ℕ). IsLive k (Some t)) number (agrees.within, agrees.ended ∙ live)

-- where the rank that was asked has not answered, the own mailbox says so
pub waiting_told : (a b v : ℕ) (t t' : Option Told) → a ≡ b → Stays (λ x. ((place x a).mail ≡ asked v) × (is_stopped x v ≡ false)) t t' → Waits b t'
waiting_told a b v None t' e stays = subst (Waits b) (sym stays) tt
waiting_told a b v (Some t) t' e stays = subst (Waits b) (sym stays.1) (v, subst (λ (k : ℕ). (place t k).mail ≡ asked v) e stays.0.0)

-- of two steps neither of which changes a board that tells nothing
pub still_then : {P X : Type 0} (tells : P → Option X) (p p1 p2 : P) → (tells p ≡ None → p1 ≡ p) → (tells p1 ≡ None → p2 ≡ p1) → tells p ≡ None → p2 ≡ p
still_then tells p p1 p2 a b e = b (ap tells (a e) ∙ e) ∙ a e

module _ {J S T P Q : Type 0} (log : J → Log) (plain : J → Q) (shows : S → Shown) (tells : P → Option Told) (seats : P → S → Type 0) where
  went_then : (A B C : List Move → Type 0) (r : Rank J S T) (p : P) (r1 : Rank J S T) (p1 : P) (r2 : Rank J S T) (p2 : P)
      → ((a b : List Move) → A a → B b → C (a ++ b)) → r1.me ≡ r.me → r1.options ≡ r.options
      → Went log plain shows tells seats A r p r1 p1 → Went log plain shows tells seats B r1 p1 r2 p2 → Went log plain shows tells seats C r p r2 p2
  went_then A B C r p r1 p1 r2 p2 both me options a b =
      let es : List Event = flat_map (events_of r.me) a.moves in
      let fs : List Event = flat_map (events_of r.me) b.moves in
      let all : flat_map (events_of r.me) (a.moves ++ b.moves) ≡ es ++ fs = flat_map-append (events_of r.me) a.moves b.moves in
      let more : flat_map (events_of r1.me) b.moves ≡ fs = ap (λ (k : ℕ). flat_map (events_of k) b.moves) me in
      let trace : r1.options.trace ≡ r.options.trace = ap (λ (o : Options). o.trace) options in
      record {
        had = a.had;
        moves = a.moves ++ b.moves;
        are = both a.moves b.moves a.are b.are;
        does = does_then r.options r.me a.moves b.moves (side log plain shows tells seats r p) (side log plain shows tells seats r1 p1)
            (side log plain shows tells seats r2 p2) a.does
            (subst (λ (o : Options). DoesAll o r.me b.moves (side log plain shows tells seats r1 p1) (side log plain shows tells seats r2 p2)) options
            (subst (λ (k : ℕ). DoesAll r1.options k b.moves (side log plain shows tells seats r1 p1) (side log plain shows tells seats r2 p2)) me b.does));
        kept = b.kept
            ∙ ap (λ (xs : List Event). xs ++ (if r1.options.trace then flat_map (events_of r1.me) b.moves else [])) a.kept
            ∙ append_assoc r.book.events.items (if r.options.trace then es else []) (if r1.options.trace then flat_map (events_of r1.me) b.moves else [])
            ∙ ap (λ (t : Bool). r.book.events.items ++ ((if r.options.trace then es else []) ++ (if t then flat_map (events_of r1.me) b.moves else []))) trace
            ∙ ap (λ (xs : List Event). r.book.events.items ++ ((if r.options.trace then es else []) ++ (if r.options.trace then xs else []))) more
            ∙ ap (λ (xs : List Event). r.book.events.items ++ xs) (sym (kept_then r.options.trace es fs))
            ∙ ap (λ (xs : List Event). r.book.events.items ++ (if r.options.trace then xs else [])) (sym all);
        share = b.share
            ∙ ap (λ (xs : List Event). counted xs r1.book.share) more
            ∙ ap (λ (s : Share). counted fs s) a.share
            ∙ sym (counted_then es fs r.book.share)
            ∙ ap (λ (xs : List Event). counted xs r.book.share) (sym all);
      }

  pub came_then : (A B C : List Move → Type 0) (r : Rank J S T) (p : P) (r1 : Rank J S T) (p1 : P) (r2 : Rank J S T) (p2 : P)
      → ((a b : List Move) → A a → B b → C (a ++ b))
      → Came log plain shows tells seats A r p r1 p1 → Came log plain shows tells seats B r1 p1 r2 p2 → Came log plain shows tells seats C r p r2 p2
  came_then A B C r p r1 p1 r2 p2 both a b = record {
    knows = b.knows;
    mine = b.mine;
    none = b.none;
    others = λ other ne s. b.others other (λ e. ne (e ∙ a.me)) (a.others other ne s);
    still = still_then tells p p1 p2 a.still b.still;
    me = b.me ∙ a.me;
    options = b.options ∙ a.options;
    sums_seat = b.sums_seat ∙ a.sums_seat;
    sums = b.sums ∙ a.sums;
    facts = b.facts ∙ a.facts;
    lost = λ l. b.lost (a.lost l);
    went = λ found. (let w = b.went found in went_then A B C r p r1 p1 r2 p2 both a.me a.options (a.went w.had) w);
  }

  -- the moves are seen as moves of another kind, after which the queue is another
  came_queue : (A B : List Move → Type 0) (r : Rank J S T) (p : P) (r1 : Rank J S T) (p1 : P) (queue : List (List ℕ))
      → Knows shows (record r1 { queue = queue })
      → (r1.book.lost ≡ false → Went log plain shows tells seats A r p r1 p1 → Went log plain shows tells seats B r p (record r1 { queue = queue }) p1)
      → Came log plain shows tells seats A r p r1 p1 → Came log plain shows tells seats B r p (record r1 { queue = queue }) p1
  came_queue A B r p r1 p1 queue knows becomes a = record {
    knows = knows;
    mine = a.mine;
    none = a.none;
    others = a.others;
    still = a.still;
    me = a.me;
    options = a.options;
    sums_seat = a.sums_seat;
    sums = a.sums;
    facts = a.facts;
    lost = a.lost;
    went = λ found. becomes found (a.went found);
  }

  -- moves of a kind are moves of another, where what they do shows it
  pub came_as : (A B : List Move → Type 0) (r : Rank J S T) (p : P) (r1 : Rank J S T) (p1 : P)
      → ((moves : List Move) → r1.book.lost ≡ false → A moves
      → DoesAll r.options r.me moves (side log plain shows tells seats r p) (side log plain shows tells seats r1 p1) → B moves)
      → Came log plain shows tells seats A r p r1 p1 → Came log plain shows tells seats B r p r1 p1
  came_as A B r p r1 p1 turn a = came_queue A B r p r1 p1 r1.queue a.knows (λ found w. record {
    had = w.had;
    moves = w.moves;
    are = turn w.moves found w.are w.does;
    does = w.does;
    kept = w.kept;
    share = w.share;
  }) a

  pub side_as : (r : Rank J S T) (p : P) (r1 : Rank J S T) (p1 : P) → r1.queue ≡ r.queue → log r1.job ≡ log r.job → r1.draws ≡ r.draws
      → (shows r1.seat).batches ≡ (shows r.seat).batches → tells p1 ≡ tells p
      → side log plain shows tells seats r1 p1 ≡ side log plain shows tells seats r p
  side_as r p r1 p1 queue logs draws batches told = cc

  -- nothing changes but what is told
  side_told : (r : Rank J S T) (p : P) (r1 : Rank J S T) (p1 : P) → r1.queue ≡ r.queue → log r1.job ≡ log r.job → r1.draws ≡ r.draws
      → (shows r1.seat).batches ≡ (shows r.seat).batches
      → side log plain shows tells seats r1 p1 ≡ record (side log plain shows tells seats r p) { told = tells p1 }
  side_told r p r1 p1 queue logs draws batches =
      ap (λ (q : Strings). made q (log r1.job) r1.draws (shows r1.seat).batches (tells p1)) queue
      ∙ ap (λ (l : Log). made r.queue l r1.draws (shows r1.seat).batches (tells p1)) logs
      ∙ ap (λ (d : Lcg). made r.queue (log r.job) d (shows r1.seat).batches (tells p1)) draws
      ∙ ap (λ (b : Option Batches). made r.queue (log r.job) r.draws b (tells p1)) batches

  -- one deed was done and noted
  pub went_did : (A : List Move → Type 0) (r : Rank J S T) (p : P) (r1 : Rank J S T) (p1 : P) (d : Deed) → A (did d ∷ [])
      → Writes r.options.trace (event_of r.me d ∷ []) r.book r1.book
      → DoesDeed r.options r.me d (side log plain shows tells seats r p) (side log plain shows tells seats r1 p1) → r1.book.lost ≡ false
      → Went log plain shows tells seats A r p r1 p1
  went_did A r p r1 p1 d a writes does found = record {
    had = writes.had found;
    moves = did d ∷ [];
    are = a;
    does = (side log plain shows tells seats r1 p1, does, refl);
    kept = writes.kept found;
    share = writes.share found;
  }

  -- a request was taken back and noted
  pub went_withdrew : (A : List Move → Type 0) (r : Rank J S T) (p : P) (r1 : Rank J S T) (p1 : P) (from : ℕ) → A (noted (withdraw from) ∷ [])
      → Writes r.options.trace (TakeNone r.me from ∷ []) r.book r1.book
      → from < r.options.ranks → TellsLate r.me (withdraw from) (tells p) (tells p1) → r1.queue ≡ r.queue → log r1.job ≡ log r.job
      → r1.draws ≡ r.draws → (shows r1.seat).batches ≡ (shows r.seat).batches → r1.book.lost ≡ false
      → Went log plain shows tells seats A r p r1 p1
  went_withdrew A r p r1 p1 from a writes inside told queue logs draws batches found = record {
    had = writes.had found;
    moves = noted (withdraw from) ∷ [];
    are = a;
    does = (
      side log plain shows tells seats r1 p1,
      record { may = inside; told = told; after = side_told r p r1 p1 queue logs draws batches },
      refl,
    );
    kept = writes.kept found;
    share = writes.share found;
  }

  -- what is no event was done
  pub went_silent : (A : List Move → Type 0) (r : Rank J S T) (p : P) (r1 : Rank J S T) (p1 : P) (late : Late) → A (noted late ∷ [])
      → noted_of r.me late ≡ [] → r1.book ≡ r.book
      → MayNote r.options late (side log plain shows tells seats r p) → TellsLate r.me late (tells p) (tells p1) → r1.queue ≡ r.queue
      → log r1.job ≡ log r.job → r1.draws ≡ r.draws → (shows r1.seat).batches ≡ (shows r.seat).batches → r1.book.lost ≡ false
      → Went log plain shows tells seats A r p r1 p1
  went_silent A r p r1 p1 late a silent book may told queue logs draws batches found =
      let none : flat_map (events_of r.me) (noted late ∷ []) ≡ [] = append-nil (noted_of r.me late) ∙ silent in
      record {
        had = sym (ap (λ (b : _). b.lost) book) ∙ found;
        moves = noted late ∷ [];
        are = a;
        does = (
          side log plain shows tells seats r1 p1,
          record { may = may; told = told; after = side_told r p r1 p1 queue logs draws batches },
          refl,
        );
        kept = ap (λ (b : _). b.events.items) book ∙ kept_none r.options.trace r.book.events.items
            ∙ ap (λ (es : List Event). r.book.events.items ++ (if r.options.trace then es else [])) (sym none);
        share = ap (λ (b : _). b.share) book ∙ ap (λ (es : List Event). counted es r.book.share) (sym none);
      }

  -- the newest string was handled
  pub went_handled : (A : List Move → Type 0) (r : Rank J S T) (p : P) (r1 : Rank J S T)
      → ((path : List ℕ) (kids : List (List ℕ)) → A (handled path kids ∷ []))
      → (r.book.lost ≡ false → MayHandle r.options (length (log r.job))) → IsLive r.me (tells p) → NobodyAsks r.me (tells p)
      → HandledNewest log plain r r1 → r1.book.lost ≡ false → Went log plain shows tells seats A r p r1 p
  went_handled A r p r1 a may live unasked newest found =
      let n = newest.done found in
      record {
        had = n.writes.had found;
        moves = Move.handled n.path n.kids ∷ [];
        are = a n.path n.kids;
        does = (
          side log plain shows tells seats r1 p,
          record {
            rest = n.rest;
            live = live;
            may = may (n.writes.had found);
            newest = n.newest;
            unasked = unasked;
            few = n.few;
            after =
                (let same = newest.same in let seat : r1.seat ≡ r.seat = ap (λ (x : Rank J S T). x.seat) same in
                let draws : r1.draws ≡ r.draws = ap (λ (x : Rank J S T). x.draws) same in
                let pushed = n.pushed in let logged = n.logged in cc);
          },
          refl,
        );
        kept = n.writes.kept found;
        share = n.writes.share found;
      }

  knows_handled : (r r1 : Rank J S T) → Knows shows r → r.ended ≡ false → 0 < length r.queue → HandledNewest log plain r r1 → Knows shows r1
  knows_handled r r1 k live some newest =
      let seat : r1.seat ≡ r.seat = ap (λ (x : Rank J S T). x.seat) newest.same in
      let options : r1.options ≡ r.options = ap (λ (x : Rank J S T). x.options) newest.same in
      let ranks : r1.options.ranks ≡ r.options.ranks = ap (λ (o : Options). o.ranks) options in
      let me : r1.me ≡ r.me = ap (λ (x : Rank J S T). x.me) newest.same in
      let shown : shows r1.seat ≡ shows r.seat = ap shows seat in
      record {
        number = ap (λ (s : Shown). s.number) shown ∙ k.number ∙ sym me;
        ranks = ap (λ (s : Shown). s.n) shown ∙ k.ranks ∙ sym ranks;
        colour = ap (λ (s : Shown). s.colour) shown ∙ k.colour ∙ sym (ap (λ (x : Rank J S T). x.colour) newest.same);
        tried = ap (λ (s : Shown). s.tried) shown ∙ k.tried ∙ sym (ap (λ (x : Rank J S T). x.tried) newest.same);
        asked = ap (λ (s : Shown). s.asked) shown ∙ k.asked ∙ sym (ap (λ (x : Rank J S T). x.asked) newest.same);
        ended = ap (λ (s : Shown). s.ended) shown ∙ k.ended ∙ sym (ap (λ (x : Rank J S T). x.ended) newest.same);
        stopped = ap (λ (s : Shown). s.stopped) shown ∙ k.stopped ∙ sym (ap (λ (x : Rank J S T). x.stopped) newest.same);
        inside = (let i = k.inside in omega (arith, i, me, ranks));
        few = (let f = k.few in omega (arith, f, ranks));
        asks = λ v e. (let f = k.asks v (sym (ap (λ (x : Rank J S T). x.asked) newest.same) ∙ e) in omega (arith, f, ranks));
        wide = ap (λ (s : Shown). length s.serves) shown ∙ k.wide ∙ sym ranks;
        idle = λ e. absurd (let q = k.idle (sym (ap (λ (s : Shown). s.busy) shown) ∙ e) in let n : length r.queue ≡ 0 = ap length q in omega (arith, some));
        waits = λ v e. absurd (let q = k.waits v (sym (ap (λ (x : Rank J S T). x.asked) newest.same) ∙ e) in let n : length r.queue ≡ 0 = ap length q in
            omega (arith, some));
        over = λ e. (let f : true ≡ false = sym e ∙ ap (λ (x : Rank J S T). x.ended) newest.same ∙ live in cc);
        empty = newest.empty;
      }

  pub came_handled : (A : List Move → Type 0) (r : Rank J S T) (p : P) (r1 : Rank J S T)
      → ((path : List ℕ) (kids : List (List ℕ)) → A (handled path kids ∷ []))
      → (r.book.lost ≡ false → MayHandle r.options (length (log r.job))) → Knows shows r → seats p r.seat → ServesNone shows r
      → r.ended ≡ false → 0 < length r.queue → AgreesIfTold (tells p) (shows r.seat) → NobodyAsks r.me (tells p)
      → HandledNewest log plain r r1 → Came log plain shows tells seats A r p r1 p
  came_handled A r p r1 a may k mine none live some agrees unasked newest =
      let seat : r1.seat ≡ r.seat = ap (λ (x : Rank J S T). x.seat) newest.same in
      record {
        knows = knows_handled r r1 k live some newest;
        mine = subst (seats p) (sym seat) mine;
        none = λ i. ap (λ (s : S). is_served (shows s) i) seat ∙ none i;
        others = λ other ne s. s;
        still = λ e. refl;
        me = ap (λ (x : Rank J S T). x.me) newest.same;
        options = ap (λ (x : Rank J S T). x.options) newest.same;
        sums_seat = ap (λ (x : Rank J S T). x.sums_seat) newest.same;
        sums = newest.sums;
        facts = newest.facts;
        lost = newest.lost;
        went = went_handled A r p r1 a may (live_told (tells p) (shows r.seat) r.me agrees k.number (k.ended ∙ live)) unasked newest;
      }

  -- a rank that found no memory has dropped its strings
  pub came_settled : (A : List Move → Type 0) (r : Rank J S T) (p : P) (r1 : Rank J S T) (p1 : P) (queue : List (List ℕ))
      → (r1.book.lost ≡ true → queue ≡ []) → (r1.book.lost ≡ false → queue ≡ r1.queue)
      → Came log plain shows tells seats A r p r1 p1 → Came log plain shows tells seats A r p (record r1 { queue = queue }) p1
  came_settled A r p r1 p1 queue lost kept a =
      let none : r1.queue ≡ []
      → queue ≡ [] = λ q. elim r1.book.lost as
      (λ (b : Bool). r1.book.lost ≡ b → queue ≡ []) [ true ↦ λ e. lost e | false ↦ λ e. kept e ∙ q ] refl in
      came_queue A A r p r1 p1 queue (knows_queue shows r1 queue r1.book a.knows none) (λ found w. record {
        had = w.had;
        moves = w.moves;
        are = w.are;
        does = subst (λ (q : List (List ℕ)).
            DoesAll r.options r.me w.moves (side log plain shows tells seats r p)
            (side log plain shows tells seats (record r1 { queue = q }) p1)) (sym (kept found)) w.does;
        kept = w.kept;
        share = w.share;
      }) a

pub handled_still : (some : Bool) (done : Did) → done ≡ Handled → with_service some done ≡ Handled
handled_still some done e = ap (with_service some) e

-- a service changes nothing but a wait
before_service : (some : Bool) (done by : Did) → by ≢ Acted → with_service some done ≡ by → done ≡ by
before_service some Handled by ne e = e
before_service some Acted by ne e = e
before_service some Stopped by ne e = e
before_service true Waited by ne e = absurd (ne (sym e))
before_service false Waited by ne e = e

abbrev is_act : Did → Bool
is_act Handled = false
is_act Acted = true
is_act Waited = false
is_act Stopped = false

no_act : (by : Did) → is_act by ≡ false → by ≢ Acted
no_act by other e = (let f : true ≡ false = sym (ap is_act e) ∙ other in cc)

pub waited_alone : (some : Bool) (done : Did) → with_service some done ≡ Waited → done ≡ Waited
waited_alone some done e = before_service some done Waited (no_act Waited refl) e

pub handled_before : (some : Bool) (done : Did) → with_service some done ≡ Handled → done ≡ Handled
handled_before some done e = before_service some done Handled (no_act Handled refl) e

pub stopped_before : (some : Bool) (done : Did) → with_service some done ≡ Stopped → done ≡ Stopped
stopped_before some done e = before_service some done Stopped (no_act Stopped refl) e
