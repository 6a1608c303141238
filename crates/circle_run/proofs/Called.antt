-- A step of a rank that is one call of its board.
use Rattle.circle_run.proofs.Prelude.{◌≡◌, ◌≢◌, ℕ, refl, subst, ap, ◌∙◌, arith, Bool, true, false, List, [], ◌∷◌, length, Option, None, slice_index_or, Strings}
use Rattle.circle_run.proofs.Prelude.{Batches, Shown, Told, Deed, ask, give, refuse, take, take_none, pass, restart, conclude, see_over, event_of, Tells, Late}
use Rattle.circle_run.proofs.Prelude.{TellsLate, Log, Move, did, noted, noted_of, Queues, NamesRank, Draws, batches_after, DoesDeed, MayNote, Writes, Came}
use Rattle.circle_run.proofs.Prelude.{Knows, ServesNone, Went, Rank}
use Rattle.circle_run.specs.Ranks.{side}
use Rattle.circle_run.proofs.Stepped.{went_did, went_silent}

-- a rank without a string does this, and gets none by it
abbrev pub IsIdle : Deed → Type 0
IsIdle (ask victim) = Unit {0}
IsIdle (give to batch) = ⊥
IsIdle (refuse to) = ⊥
IsIdle (take from batch) = ⊥
IsIdle (take_none from) = ⊥
IsIdle (pass colour) = Unit {0}
IsIdle restart = Unit {0}
IsIdle conclude = Unit {0}
IsIdle see_over = Unit {0}

idle_deed : (n : ℕ) (d : Deed) (q q' : Strings) (b : Option Batches) → IsIdle d → q ≡ [] → q' ≡ []
    → Queues d q q' × NamesRank n d × (b ≡ batches_after d b)
idle_deed n (give to batch) q q' b idle e e' = absurd idle
idle_deed n (refuse to) q q' b idle e e' = absurd idle
idle_deed n (take from batch) q q' b idle e e' = absurd idle
idle_deed n (take_none from) q q' b idle e e' = absurd idle
idle_deed n _ q q' b idle e e' = ((e, e'), tt, refl)

module _ {J S T : Type 0} (shows : S → Shown) where
  -- a rank that serves none keeps its job, its number, its options and its seat at the sums, and knows what its seat shows
  pub record Keeps (r r1 : Rank J S T) : Type 0 where
    pub before : Knows shows r
    pub none : ServesNone shows r
    pub knows : Knows shows r1
    pub same : r1 ≡ record r {
      seat = r1.seat;
      queue = r1.queue;
      draws = r1.draws;
      colour = r1.colour;
      tried = r1.tried;
      asked = r1.asked;
      ended = r1.ended;
      stopped = r1.stopped;
      book = r1.book;
    }

module _ {S P : Type 0} (shows : S → Shown) (tells : P → Option Told) (seats : P → S → Type 0) where
  -- the clauses of a call that are the same for all calls
  pub record Calls (s : S) (p : P) (s1 : S) (p1 : P) : Type 0 where
    pub mine : seats p1 s1
    pub others : (other : S) → (shows other).number ≢ (shows s).number → seats p other → seats p1 other
    pub still : tells p ≡ None → p1 ≡ p
    pub serves : (shows s1).serves ≡ (shows s).serves

module _ {J S T P Q : Type 0} (log : J → Log) (plain : J → Q) (shows : S → Shown) (tells : P → Option Told) (seats : P → S → Type 0) where
  -- a deed of a rank without a string
  pub record Idles (d : Deed) (r : Rank J S T) (p : P) (r1 : Rank J S T) (p1 : P) : Type 0 where
    pub idle : IsIdle d
    pub empty : r.queue ≡ []
    pub left : r1.queue ≡ []
    pub drawn : Draws r.options.ranks r.me d r.draws r1.draws
    pub batches : (shows r1.seat).batches ≡ (shows r.seat).batches
    pub told : Tells (shows r.seat).number d (tells p) (tells p1)

  -- a note that changes nothing of the rank but its seat
  pub record Notes (late : Late) (r : Rank J S T) (p : P) (r1 : Rank J S T) (p1 : P) : Type 0 where
    pub silent : noted_of r.me late ≡ []
    pub may : r1.book.lost ≡ false → MayNote r.options late (side log plain shows tells seats r p)
    pub told : TellsLate (shows r.seat).number late (tells p) (tells p1)
    pub book : r1.book ≡ r.book
    pub queue : r1.queue ≡ r.queue
    pub draws : r1.draws ≡ r.draws
    pub batches : (shows r1.seat).batches ≡ (shows r.seat).batches

  pub came_called : (A : List Move → Type 0) (r : Rank J S T) (p : P) (r1 : Rank J S T) (p1 : P) → Keeps shows r r1
      → Calls shows tells seats r.seat p r1.seat p1 → r1.book.sums ≡ r.book.sums → (r.book.lost ≡ true → r1.book.lost ≡ true)
      → (r1.book.lost ≡ false → Went log plain shows tells seats A r p r1 p1) → Came log plain shows tells seats A r p r1 p1
  came_called A r p r1 p1 k c sums lost went = record {
    knows = k.knows;
    mine = c.mine;
    none = λ i. ap (λ (l : List Bool). slice_index_or l i false) c.serves ∙ k.none i;
    others = λ other ne s. c.others other (λ e. ne (e ∙ k.before.number)) s;
    still = c.still;
    me = ap (λ (x : Rank J S T). x.me) k.same;
    options = ap (λ (x : Rank J S T). x.options) k.same;
    sums_seat = ap (λ (x : Rank J S T). x.sums_seat) k.same;
    sums = sums;
    facts = ap (λ (x : Rank J S T). plain x.job) k.same;
    lost = lost;
    went = went;
  }

  pub came_did : (A : List Move → Type 0) (r : Rank J S T) (p : P) (r1 : Rank J S T) (p1 : P) (d : Deed) → Keeps shows r r1
      → Calls shows tells seats r.seat p r1.seat p1 → A (did d ∷ []) → Writes r.options.trace (event_of r.me d ∷ []) r.book r1.book
      → DoesDeed r.options r.me d (side log plain shows tells seats r p) (side log plain shows tells seats r1 p1)
      → Came log plain shows tells seats A r p r1 p1
  came_did A r p r1 p1 d k c a writes does =
      came_called A r p r1 p1 k c writes.sums writes.lost (went_did log plain shows tells seats A r p r1 p1 d a writes does)

  pub came_idle : (A : List Move → Type 0) (r : Rank J S T) (p : P) (r1 : Rank J S T) (p1 : P) (d : Deed) → Keeps shows r r1
      → Calls shows tells seats r.seat p r1.seat p1 → A (did d ∷ []) → Writes r.options.trace (event_of r.me d ∷ []) r.book r1.book
      → Idles d r p r1 p1 → Came log plain shows tells seats A r p r1 p1
  came_idle A r p r1 p1 d k c a writes i =
      let deed = idle_deed r.options.ranks d r.queue r1.queue (shows r.seat).batches i.idle i.empty i.left in
      came_did A r p r1 p1 d k c a writes (record {
        queue = deed.0;
        few = (let n : length r1.queue ≡ 0 = ap length i.left in omega arith);
        names = deed.1;
        drawn = i.drawn;
        log = ap (λ (x : Rank J S T). log x.job) k.same;
        batches = i.batches ∙ deed.2;
        told = subst (λ (n : ℕ). Tells n d (tells p) (tells p1)) k.before.number i.told;
      })

  pub came_noted : (A : List Move → Type 0) (r : Rank J S T) (p : P) (r1 : Rank J S T) (p1 : P) (late : Late) → Keeps shows r r1
      → Calls shows tells seats r.seat p r1.seat p1 → A (noted late ∷ []) → Notes late r p r1 p1 → Came log plain shows tells seats A r p r1 p1
  came_noted A r p r1 p1 late k c a n = came_called A r p r1 p1 k c (ap (λ (b : _). b.sums) n.book) (λ l. ap (λ (b : _). b.lost) n.book ∙ l)
      (λ found. went_silent log plain shows tells seats A r p r1 p1 late a n.silent n.book (n.may found)
      (subst (λ (j : ℕ). TellsLate j late (tells p) (tells p1)) k.before.number n.told) n.queue
      (ap (λ (x : Rank J S T). log x.job) k.same) n.draws n.batches found)
