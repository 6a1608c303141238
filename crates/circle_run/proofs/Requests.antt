-- Requests that are taken up, one after the other.
use Rattle.circle_run.proofs.Prelude.{◌≡◌, ◌≢◌, ℕ, ◌+◌, ◌<◌, refl, sym, subst, ap, ◌∙◌, arith, true, List, length, length-set, set, Option, Some, None}
use Rattle.circle_run.proofs.Prelude.{take_more_set, Shown, Told, Stays, serving, Found, LookedFor, AgreesIfTold, Log, Knows, ServesNone, unserved}
use Rattle.circle_run.proofs.Prelude.{InOrderIfTold, Taken, Rank}
use Rattle.std.proofs.Common.{take}
use Rattle.circle_run.proofs.Stepped.{stays_same, still_then}
use Rattle.circle_run.proofs.Known.{knows_served}
use Rattle.circle_run.proofs.Asked.{unserved_set, unserved_all, asks_more, asks_none, ordered_none, ordered_more}

module _ {J S T P : Type 0} (log : J → Log) (shows : S → Shown) (tells : P → Option Told) (seats : P → S → Type 0) where
  knows_serves : (r : Rank J S T) (seat : S) (to : ℕ) → Knows shows r → shows seat ≡ serving (shows r.seat) (Some to) → Knows shows (record r { seat = seat })
  knows_serves r seat to k shown =
      knows_served shows r seat r.queue r.book (set (shows r.seat).serves to true) k shown (length-set (shows r.seat).serves to true) refl

  pub taken_room : (r : Rank J S T) (p : P) (r1 : Rank J S T) (p1 : P) (asks : List ℕ) (count to : ℕ)
      → Taken log shows tells seats r p r1 p1 asks count → Found (shows r1.seat) (Some to) → count < 64
  taken_room r p r1 p1 asks count to taken found =
      (let b = unserved_set (shows r1.seat).serves to found.1 found.3 in let d = taken.total in let few = taken.knows.few in omega arith)

  pub taken_less : (r : Rank J S T) (p : P) (r1 : Rank J S T) (p1 : P) (asks : List ℕ) (count to : ℕ) (seat : S)
      → Taken log shows tells seats r p r1 p1 asks count → Found (shows r1.seat) (Some to) → shows seat ≡ serving (shows r1.seat) (Some to)
      → unserved (shows seat).serves < unserved (shows r1.seat).serves
  taken_less r p r1 p1 asks count to seat taken found shown =
      (let a : unserved (shows seat).serves ≡ unserved (set (shows r1.seat).serves to true) = ap (λ (s : Shown). unserved s.serves) shown in
      let b = unserved_set (shows r1.seat).serves to found.1 found.3 in omega arith)

  pub taken_more : (r : Rank J S T) (p : P) (r1 : Rank J S T) (p1 : P) (seat : S) (p2 : P) (asks : List ℕ) (count to : ℕ)
      → Taken log shows tells seats r p r1 p1 asks count
      → Found (shows r1.seat) (Some to) → shows seat ≡ serving (shows r1.seat) (Some to)
      → Stays (LookedFor (shows r1.seat) (Some to)) (tells p1) (tells p2) → AgreesIfTold (tells p1) (shows r1.seat) → seats p2 seat
      → ((o : S) → (shows o).number ≢ (shows r1.seat).number → seats p1 o → seats p2 o) → (tells p1 ≡ None → p2 ≡ p1) → count < length asks
      → Taken log shows tells seats r p (record r1 { seat = seat }) p2 (set asks count to) (count + 1)
  taken_more r p r1 p1 seat p2 asks count to taken found shown stays agrees mine others still room =
      let serves : (shows seat).serves ≡ set (shows r1.seat).serves to true = ap (λ (s : Shown). s.serves) shown in
      let me : r1.me ≡ r.me = ap (λ (x : Rank J S T). x.me) taken.rest in
      let number : (shows r1.seat).number ≡ r.me = taken.knows.number ∙ me in
      record {
        knows = knows_serves r1 seat to taken.knows shown;
        mine = mine;
        others = λ o ne s. others o (λ e. ne (e ∙ number)) (taken.others o ne s);
        still = still_then tells p p1 p2 taken.still still;
        rest = ap (λ (x : Rank J S T). record x { seat = seat }) taken.rest;
        here = ap (λ (s : Shown). s.here) shown ∙ taken.here;
        halted = ap (λ (s : Shown). s.halted) shown ∙ taken.halted;
        knows_halt = ap (λ (s : Shown). s.knows_halt) shown ∙ taken.knows_halt;
        batches = ap (λ (s : Shown). s.batches) shown ∙ taken.batches;
        told = stays_same (LookedFor (shows r1.seat) (Some to)) (tells p1) (tells p2) stays ∙ taken.told;
        asked = asks_more (shows r1.seat) (shows seat) asks count to serves found.1 found.3 room taken.asked;
        order = subst (InOrderIfTold r.me (shows seat) (tells p2)) (sym (take_more_set asks count to room))
            (ordered_more r.me (shows r1.seat) (shows seat) (tells p1) (tells p2) (take count asks) to number serves found.1 found.0 found.3
            (λ e. found.2 (e ∙ sym number)) stays agrees taken.order);
        long = length-set asks count to ∙ taken.long;
        total = (let a : unserved (shows seat).serves ≡ unserved (set (shows r1.seat).serves to true) = ap unserved serves in
            let b = unserved_set (shows r1.seat).serves to found.1 found.3 in let d = taken.total in omega arith);
      }

  pub taken_none : (r : Rank J S T) (p : P) (asks : List ℕ) → seats p r.seat → Knows shows r → ServesNone shows r → length asks ≡ 64
      → Taken log shows tells seats r p r p asks 0
  taken_none r p asks mine knows none long = record {
    knows = knows;
    mine = mine;
    others = λ o ne s. s;
    still = λ e. refl;
    rest = refl;
    here = refl;
    halted = refl;
    knows_halt = refl;
    batches = refl;
    told = refl;
    asked = asks_none (shows r.seat) asks none;
    order = ordered_none r.me (shows r.seat) (tells p) none;
    long = long;
    total = (let e = unserved_all (shows r.seat).serves none in let w = knows.wide in omega arith);
  }
