-- A rank knows the facts that its seat shows, also after a change of some.
use Rattle.circle_run.proofs.Prelude.{◌≡◌, ℕ, refl, sym, ap, ◌∙◌, Bool, true, false, List, [], length, Option, Some, Colour, Strings, Batches, Shown, Knows}
use Rattle.circle_run.proofs.Prelude.{Book, Rank}

module _ {J S T : Type 0} (shows : S → Shown) where
  -- the seat shows other ranks that it serves, another colour and other batches, and the queue is another
  pub knows_seen : (r : Rank J S T) (seat : S) (queue : Strings) (c shade : Colour) (book : Book) (serves : List Bool) (batches : Option Batches)
      → Knows shows r → shows seat ≡ record (shows r.seat) { serves = serves; colour = shade; batches = batches }
      → length serves ≡ length (shows r.seat).serves → shade ≡ c → ((shows r.seat).busy ≡ false → queue ≡ [])
      → ((v : ℕ) → r.asked ≡ Some v → queue ≡ []) → (r.ended ≡ true → queue ≡ [])
      → Knows shows (record r { seat = seat; queue = queue; colour = c; book = book })
  knows_seen r seat queue c shade book serves batches k shown long same idle waits over = record {
    number = ap (λ (s : Shown). s.number) shown ∙ k.number;
    ranks = ap (λ (s : Shown). s.n) shown ∙ k.ranks;
    colour = ap (λ (s : Shown). s.colour) shown ∙ same;
    tried = ap (λ (s : Shown). s.tried) shown ∙ k.tried;
    asked = ap (λ (s : Shown). s.asked) shown ∙ k.asked;
    ended = ap (λ (s : Shown). s.ended) shown ∙ k.ended;
    stopped = ap (λ (s : Shown). s.stopped) shown ∙ k.stopped;
    inside = k.inside;
    few = k.few;
    asks = k.asks;
    wide = ap (λ (s : Shown). length s.serves) shown ∙ long ∙ k.wide;
    idle = λ e. idle (sym (ap (λ (s : Shown). s.busy) shown) ∙ e);
    waits = waits;
    over = over;
    empty = k.empty;
  }

  -- the seat shows other ranks that it serves
  pub knows_served : (r : Rank J S T) (seat : S) (queue : Strings) (book : Book) (serves : List Bool) → Knows shows r
      → shows seat ≡ record (shows r.seat) { serves = serves } → length serves ≡ length (shows r.seat).serves → queue ≡ r.queue
      → Knows shows (record r { seat = seat; queue = queue; book = book })
  knows_served r seat queue book serves k shown long same =
      knows_seen r seat queue r.colour (shows r.seat).colour book serves (shows r.seat).batches k shown long k.colour (λ e. same ∙ k.idle e)
      (λ v e. same ∙ k.waits v e) (λ e. same ∙ k.over e)

  -- the queue is another, but empty if the one before was
  pub knows_queue : (r : Rank J S T) (queue : Strings) (book : Book) → Knows shows r → (r.queue ≡ [] → queue ≡ [])
      → Knows shows (record r { queue = queue; book = book })
  knows_queue r queue book k none =
      knows_seen r r.seat queue r.colour (shows r.seat).colour book (shows r.seat).serves (shows r.seat).batches k refl refl k.colour
      (λ e. none (k.idle e)) (λ v e. none (k.waits v e)) (λ e. none (k.over e))
