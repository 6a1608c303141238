-- A step at the seat of id keeps the facts of the halt and the stops.
use Rattle.post_board.proofs.Prelude.{◌≡◌, ℕ, ◌<◌, sym, ◌∙◌, Bool, true, false, put, put_all, HaltFacts, serves, Known, Resting, Left, put_same}

abbrev pub IsGone : Known → Type 0
IsGone x = (x.own ≡ Resting) × (x.ended ≡ false) × ((k : ℕ) → serves x k ≡ false)

-- what is owed
pub record HaltOwed (n : ℕ) (known : ℕ → Known) (halt : Bool) (id : ℕ) (w : Known) (halt' : Bool) (stops' : ℕ → Bool) : Type 0 where
  pub up : halt ≡ true → halt' ≡ true
  pub halted : w.halted ≡ true → halt' ≡ true
  pub knows : w.knows_halt ≡ true → halt' ≡ true
  pub by_one : halt' ≡ true → (r : ℕ) × (r < n) × ((put known id w r).halted ≡ true)
  pub bits : (r : ℕ) → r < n → (put known id w r).stopped ≡ stops' r
  pub left : (v : ℕ) → w.own ≡ Left v → (put known id w v).stopped ≡ true
  pub stays : (known id).stopped ≡ true → w.stopped ≡ true
  pub gone : w.stopped ≡ true → IsGone w

pub halt_moved : (n : ℕ) (known : ℕ → Known) (halt : Bool) (stops : ℕ → Bool) (id : ℕ) (w : Known) (halt' : Bool) (stops' : ℕ → Bool)
    → HaltFacts n known halt stops → HaltOwed n known halt id w halt' stops' → HaltFacts n (put known id w) halt' stops'
halt_moved n known halt stops id w halt' stops' H O = record {
  halted = λ r h. put_all (λ j x. x.halted ≡ true → halt' ≡ true) known id w r O.halted (λ ne e. O.up (H.halted r h e));
  knows = λ r h. put_all (λ j x. x.knows_halt ≡ true → halt' ≡ true) known id w r O.knows (λ ne e. O.up (H.knows r h e));
  by_one = O.by_one;
  bits = O.bits;
  left = λ r v h. put_all (λ j x. x.own ≡ Left v → (put known id w v).stopped ≡ true) known id w r (O.left v)
      (λ ne e. put_all (λ j x. (known j).stopped ≡ true → x.stopped ≡ true) known id w v O.stays (λ ne2 q. q) (H.left r v h e));
  gone = λ r h. put_all (λ j x. x.stopped ≡ true → IsGone x) known id w r O.gone (λ ne. H.gone r h);
}

-- a step of a seat that has not stopped, which does not touch halt and stops
pub halt_same : (n : ℕ) (known : ℕ → Known) (halt : Bool) (stops : ℕ → Bool) (id : ℕ) (w : Known) → id < n → HaltFacts n known halt stops
    → (known id).stopped ≡ false
    → w.halted ≡ (known id).halted → w.knows_halt ≡ (known id).knows_halt → w.stopped ≡ (known id).stopped
    → ((v : ℕ) → w.own ≡ Left v → (known v).stopped ≡ true)
    → HaltFacts n (put known id w) halt stops
halt_same n known halt stops id w me H runs halted knows stopped left =
    halt_moved n known halt stops id w halt stops H record {
      up = λ e. e;
      halted = λ e. H.halted id me (sym halted ∙ e);
      knows = λ e. H.knows id me (sym knows ∙ e);
      by_one = λ e. (let p = H.by_one e in (p.0, p.1, put_same (λ j x. x.halted) known id w halted p.0 ∙ p.2));
      bits = λ r h. put_same (λ j x. x.stopped) known id w stopped r ∙ H.bits r h;
      left = λ v e. put_same (λ j x. x.stopped) known id w stopped v ∙ left v e;
      stays = λ e. stopped ∙ e;
      gone = λ e. absurd (let clash : true ≡ false = sym e ∙ stopped ∙ runs in cc);
    }
