-- Answers to requests, one after the other.
use Rattle.circle_run.proofs.Prelude.{◌≡◌, ◌≢◌, ℕ, ◌+◌, ◌<◌, sym, ap, ◌∙◌, arith, Bool, true, false, nat_lt, List, [], ◌++◌, length, length-append, set}
use Rattle.circle_run.proofs.Prelude.{length-set, ne_eqb, Option, None, if◌then◌else◌, Colour, Black, Event, Strings, Shown, with_given, Told, give, refuse}
use Rattle.circle_run.proofs.Prelude.{given, Log, answer_of, counted, Writes, Awaits, ServesOn, Knows, Book, Rank, false_from_ne_true}
use Rattle.post_board.specs.Calls.{served}
use Rattle.circle_run.proofs.Asked.{true_not_false}
use Rattle.circle_run.proofs.Known.{knows_seen, knows_served}

pub answer_gives : (to : ℕ) (batch : Strings) → 0 < length batch → answer_of (to, batch) ≡ give to batch
answer_gives to batch some = ap (λ (b : Bool). if b then refuse to else give to batch) (ne_eqb (length batch) 0 (λ e. absurd (omega (arith, e, some))))

-- a book that may have been lost before the event
pub writes_after : (trace : Bool) (es : List Event) (b b1 b2 : Book) → b1 ≡ record b { lost = b1.lost } → (b.lost ≡ true → b1.lost ≡ true)
    → Writes trace es b1 b2 → Writes trace es b b2
writes_after trace es b b1 b2 same lost w = record {
  sums = w.sums ∙ ap (λ (x : Book). x.sums) same;
  lost = λ l. w.lost (lost l);
  had = λ found. false_from_ne_true b.lost (λ l. true_not_false b1.lost (lost l) (w.had found));
  kept = λ found. w.kept found ∙ ap (λ (x : Book). x.events.items ++ (if trace then es else [])) same;
  share = λ found. w.share found ∙ ap (λ (x : Book). counted es x.share) same;
}

module _ {J S T : Type 0} (shows : S → Shown) where
  pub knows_gave : (r : Rank J S T) (seat : S) (queue : Strings) (c : Colour) (book : Book) (to : ℕ) (batch : Strings) → Knows shows r
      → r.ended ≡ false → shows seat ≡ given (shows r.seat) to batch → c ≡ (if nat_lt r.me to then Black else r.colour)
      → r.queue ≡ batch ++ queue → 0 < length queue → Knows shows (record r { seat = seat; queue = queue; colour = c; book = book })
  knows_gave r seat queue c book to batch k live shown shade oldest some =
      let emptied : r.queue ≡ [] → queue ≡ [] = λ e. absurd (let none : length r.queue ≡ 0 = ap length e in
      let all : length r.queue ≡ length batch + length queue = ap length oldest ∙ length-append batch queue in omega arith) in
      knows_seen shows r seat queue c (if nat_lt (shows r.seat).number to then Black else (shows r.seat).colour) book
      (set (shows r.seat).serves to false) (with_given (shows r.seat).batches to batch) k shown (length-set (shows r.seat).serves to false)
      (ap (λ (n : ℕ). if nat_lt n to then Black else (shows r.seat).colour) k.number
      ∙ ap (λ (z : Colour). if nat_lt r.me to then Black else z) k.colour ∙ sym shade)
      (λ e. emptied (k.idle e)) (λ v e. emptied (k.waits v e)) (λ e. absurd (true_not_false r.ended e live))

  pub knows_refused : (r : Rank J S T) (seat : S) (queue : Strings) (book : Book) (to : ℕ) → Knows shows r
      → shows seat ≡ served (shows r.seat) to → queue ≡ r.queue → Knows shows (record r { seat = seat; queue = queue; book = book })
  knows_refused r seat queue book to k shown same =
      knows_served shows r seat queue book (set (shows r.seat).serves to false) k shown (length-set (shows r.seat).serves to false) same

module _ {J S T P : Type 0} (log : J → Log) (shows : S → Shown) (tells : P → Option Told) (seats : P → S → Type 0) where
  -- the parts that a call leaves as they were: of its seat the token and the words on the halt, of its book the sums
  pub record Keeps (r : Rank J S T) (p : P) (r' : Rank J S T) (p' : P) : Type 0 where
    pub mine : seats p' r'.seat
    pub others : (other : S) → (shows other).number ≢ (shows r.seat).number → seats p other → seats p' other
    pub still : tells p ≡ None → p' ≡ p
    pub here : (shows r'.seat).here ≡ (shows r.seat).here
    pub halted : (shows r'.seat).halted ≡ (shows r.seat).halted
    pub knows_halt : (shows r'.seat).knows_halt ≡ (shows r.seat).knows_halt
    pub sums : r'.book.sums ≡ r.book.sums
    pub lost : r.book.lost ≡ true → r'.book.lost ≡ true

  -- a rank that answered one request serves on: it changed its seat, its queue, its colour and its book
  pub serves_on : (r : Rank J S T) (p : P) (r' : Rank J S T) (p' : P)
      → r' ≡ record r { seat = r'.seat; queue = r'.queue; colour = r'.colour; book = r'.book }
      → Knows shows r → Knows shows r' → Keeps r p r' p' → Awaits (shows r'.seat) (tells p') → ServesOn log shows tells seats r p r' p'
  serves_on r p r' p' same before knows k awaits = record {
    knows = knows;
    mine = k.mine;
    others = λ other ne s. k.others other (λ e. ne (e ∙ before.number)) s;
    still = k.still;
    me = ap (λ (x : Rank J S T). x.me) same;
    options = ap (λ (x : Rank J S T). x.options) same;
    sums_seat = ap (λ (x : Rank J S T). x.sums_seat) same;
    sums = k.sums;
    job = ap (λ (x : Rank J S T). x.job) same;
    ended = ap (λ (x : Rank J S T). x.ended) same;
    stopped = ap (λ (x : Rank J S T). x.stopped) same;
    asked = ap (λ (x : Rank J S T). x.asked) same;
    tried = ap (λ (x : Rank J S T). x.tried) same;
    here = k.here;
    halted = k.halted;
    knows_halt = k.knows_halt;
    lost = k.lost;
    awaits = awaits;
  }
