-- What seats of a plain board know of the halt and of the stops stays so, where a deed replaces ranks.
use Rattle.post_board.proofs.Prelude.{◌≡◌, ℕ, ◌<◌, ◌≢◌, ◌⊎◌, ⊎_elim, inr, refl, sym, subst, ap, ◌∙◌, arith, Bool, true, false, List, length, map, set, get_or}
use Rattle.post_board.proofs.Prelude.{get_or-set_same, get_or-set_other, length-set, Option, Some, None, Contains, length-map, get_or_default, get_or_past}
use Rattle.post_board.proofs.Prelude.{Contains-get_or, Contains-permutation, length_permutation, dite, ℕ_discrete, dec_lt, Token, Over, is_filled}
use Rattle.post_board.proofs.Prelude.{PictureInvariant, Mail, asked, mailbox, Place, Told, no_place, place, picture, is_full, Deed, ask}
use Rattle.post_board.proofs.Prelude.{Legal, told_after, AllDone, Halters, NoneOnTheWay, place_of}
use Rattle.post_board.proofs.Prelude.{told_of, told_by, worded, is_some, no_rank, plain, shown_by, Gone, HaltFits, IsSeat, Noted, PlainBoard, PlainMailbox}
use Rattle.post_board.proofs.Prelude.{Rest, Served, PlainRank, PlainSeat, spare, numbered, false_from_ne_true}
use Rattle.post_board.specs.Told.{full}
use Rattle.post_board.specs.Plain.{mail_of, Seats}
use Rattle.post_board.proofs.PlainFrames.{After, told_place}
use Rattle.post_board.proofs.PlainDeeds.{inside}

-- no deed that is an event looks at the words of the halt and the stops
legal_worded : (me : ℕ) (d : Deed) (t : Told) (halter : Option ℕ) (stops : List Bool) → Legal me d t → Legal me d (worded halter stops t)
legal_worded me (ask v) t halter stops l = l
legal_worded me _ t halter stops l = l

-- nor changes them
after_worded : (me : ℕ) (d : Deed) (t : Told) (halter : Option ℕ) (stops : List Bool)
    → worded halter stops (told_after me d t) ≡ told_after me d (worded halter stops t)
after_worded me (ask v) t halter stops = refl
after_worded me _ t halter stops = refl

-- a seat knows of the words what it knew
abbrev pub SameWords : PlainSeat → PlainSeat → Type 0
SameWords o o' = (o'.number ≡ o.number) × (o'.halted ≡ o.halted) × (o'.knows_halt ≡ o.knows_halt) × (o'.stopped ≡ o.stopped)

-- what seats know of the words is so after the ranks changed, whatever else the seats came to know
abbrev pub Keeps : Option ℕ → List Bool → List PlainRank → List PlainRank → Type 0
Keeps halter stops ranks ranks' =
    (o o' : PlainSeat) → HaltFits halter stops ranks o → SameWords o o' → HaltFits halter stops ranks' o'

module _ (halter : Option ℕ) (stops : List Bool) (ranks : List PlainRank) where
  -- one rank is replaced that has not stopped, and none that has stopped serves it
  pub keeps_put : (r : ℕ) (x : PlainRank) → get_or stops r false ≡ false → ((k : ℕ) → x.mailbox ≡ Served k → get_or stops k false ≡ false)
      → Keeps halter stops ranks (set ranks r x)
  keeps_put r x live serves o o' fits (number, halted, knows, stopped) =
      let size : length (set ranks r x) ≡ length ranks = length-set ranks r x in
      record {
        many = fits.many ∙ sym size;
        own = ap (λ (k : ℕ). get_or stops k false) number ∙ fits.own ∙ sym stopped;
        gone = λ k e. (let old : Gone ranks k = fits.gone k e in
            let ne : k ≢ r = (λ q. (let c : true ≡ false = sym e ∙ ap (λ (j : ℕ). get_or stops j false) q ∙ live in cc)) in
            let same : plain (set ranks r x) k ≡ plain ranks k = get_or-set_other ranks r k x no_rank ne in (
              ap (λ (y : PlainRank). y.ended) same ∙ old.0,
              ap (λ (y : PlainRank). y.mailbox) same ∙ old.1,
              (λ j m. dite (ℕ_discrete j r)
                  (λ q. (let at : (plain (set ranks r x) r).mailbox ≡ Served k = subst (λ (i : ℕ). (plain (set ranks r x) i).mailbox ≡ Served k) q m in
                  dite (dec_lt r (length ranks))
                  (λ h. (let lies : x.mailbox ≡ Served k = ap (λ (y : PlainRank). y.mailbox) (sym (get_or-set_same ranks r x no_rank h)) ∙ at in
                  let c : true ≡ false = sym e ∙ serves k lies in cc))
                  (λ h. (let past : plain (set ranks r x) r ≡ no_rank = get_or_past (set ranks r x) r no_rank (omega arith) in
                  let lies : no_rank.mailbox ≡ Served k = ap (λ (y : PlainRank). y.mailbox) (sym past) ∙ at in cc))))
                  (λ other. old.2 j (ap (λ (y : PlainRank). y.mailbox) (sym (get_or-set_other ranks r j x no_rank other)) ∙ m))),
            ));
        halted = λ e. fits.halted (sym halted ∙ e);
        knows = λ e. fits.knows (sym knows ∙ e);
        within = λ k e. subst (λ (n : ℕ). k < n) (sym size) (fits.within k e);
        by = λ e. halted ∙ fits.by (e ∙ ap Some number);
      }

  pub keeps_then : (mid ranks' : List PlainRank) → Keeps halter stops ranks mid → Keeps halter stops mid ranks' → Keeps halter stops ranks ranks'
  keeps_then mid ranks' f g o o' fits same = g o o' (f o o fits (refl, refl, refl, refl)) same

  -- a rank whose mailbox is not at rest has not stopped
  pub serves_on : (s : PlainSeat) (r : ℕ) → HaltFits halter stops ranks s → (plain ranks r).mailbox ≢ Rest → get_or stops r false ≡ false
  serves_on s r fits lies = false_from_ne_true (get_or stops r false) (λ e. lies (fits.gone r e).1)

  -- nor has one that serves it
  pub served_by : (s : PlainSeat) (r k : ℕ) → HaltFits halter stops ranks s → (plain ranks r).mailbox ≡ Served k → get_or stops k false ≡ false
  served_by s r k fits lies = false_from_ne_true (get_or stops k false) (λ e. (fits.gone k e).2 r lies)

  -- one rank is replaced, with the same mailbox
  pub keeps_own : (s : PlainSeat) (x : PlainRank) → HaltFits halter stops ranks s → s.stopped ≡ false → x.mailbox ≡ (plain ranks s.number).mailbox
      → Keeps halter stops ranks (set ranks s.number x)
  keeps_own s x fits live same = keeps_put s.number x (fits.own ∙ live) (λ k e. served_by s s.number k fits (sym same ∙ e))

-- what a deed of the rank me makes of a plain board and of the seats
pub record Done (me : ℕ) (d : Deed) (halter : Option ℕ) (stops : List Bool) (ranks : List PlainRank) (masks : List ℕ) (token : Token)
    (ranks' : List PlainRank) (masks' : List ℕ) (token' : Token) (s' : PlainSeat) : Type 0 where
  pub told : Legal me d (worded halter stops (told_of ranks token))
      × (Some (worded halter stops (told_of ranks' token')) ≡ Some (told_after me d (worded halter stops (told_of ranks token))))
  pub mine : IsSeat ranks' token' s' × Noted ranks' masks' × HaltFits halter stops ranks' s'
  pub others : (o : PlainSeat) → o.number ≢ me → IsSeat ranks token o × Noted ranks masks × HaltFits halter stops ranks o
      → IsSeat ranks' token' o × Noted ranks' masks' × HaltFits halter stops ranks' o

pub done_by : {me : ℕ} {d : Deed} {halter : Option ℕ} {stops : List Bool} {ranks ranks' : List PlainRank} {masks masks' : List ℕ} {token token' : Token}
    {s s' : PlainSeat} → After me d ranks token ranks' token' s' → Noted ranks' masks' → HaltFits halter stops ranks s → Keeps halter stops ranks ranks'
    → SameWords s s'
    → Done me d halter stops ranks masks token ranks' masks' token' s'
done_by {me} {d} {halter} {stops} {ranks} {ranks'} {masks} {masks'} {token} {token'} {s} {s'} after noted fits keeps same = record {
  told = (
    legal_worded me d (told_of ranks token) halter stops after.legal,
    ap (λ (t : Told). Some (worded halter stops t)) after.told ∙ ap Some (after_worded me d (told_of ranks token) halter stops),
  );
  mine = (after.mine, noted, keeps s s' fits same);
  others = λ o ne b. (after.others o ne b.0, noted, keeps o o b.2 (refl, refl, refl, refl));
}

full_box : (m : Mail) → is_full m ≡ true → is_filled (mailbox m) ≡ true
full_box (full r b) e = refl
full_box _ e = cc

some_is : (a : Option ℕ) → is_some a ≡ true → (r : ℕ) × (a ≡ Some r)
some_is None e = cc
some_is (Some r) e = (r, refl)

module _ (b : PlainBoard) (all : List PlainSeat) (done : AllDone shown_by (Seats b) all) where
  -- what is asked of the seat of one rank
  abbrev OfRank : ℕ → PlainSeat → Type 0
  OfRank k s = Seats b s × (s.number ≡ k) × (s.n ≡ length done.ranks) × ((s.ended ≡ true) ⊎ (s.stopped ≡ true))
      × ((r : ℕ) → get_or s.serves.items r false ≡ false)

  rank_of : (s : PlainSeat) → Contains all s → (k : ℕ) × OfRank k s
  rank_of s c = let (k, _, _, of) = numbered OfRank done.ranks all done.same (λ j d h. done.by_number j d h) s c in (k, of)

  pub some_rank : 0 < length all → 0 < length b.ranks.items
  some_rank some =
      let as_many = length_permutation done.ranks all done.same in
      let x = done.by_number 0 (spare all some) (omega arith) in
      let inside = x.0.0.0.inside in omega arith

  -- rank 0 saw the end where its seat shows so
  pub over_is : (s : PlainSeat) → Contains all s → s.number ≡ 0 → (plain b.ranks.items 0).ended ≡ s.ended
  over_is s c lowest = ap (λ (k : ℕ). (plain b.ranks.items k).ended) (sym lowest) ∙ (rank_of s c).1.0.0.0.matches.3

  -- once all ranks have ended or stopped, no batch is on the way
  pub none_left_over : 0 < length all → NoneOnTheWay (told_by b)
  none_left_over some r = dite (dec_lt r (length done.ranks))
      (λ h. (let x = done.by_number r d h in
      let s = get_or done.ranks r d in
      let ranks = b.ranks.items in
      let t : Told = told_of ranks b.token in
      let at : place t r ≡ place_of (plain ranks r) = told_place ranks b.token r in
      let number : s.number ≡ r = x.1 in
      ⊎_elim
      (λ ended. false_from_ne_true (is_full (place t r).mail) (λ f.
      (let over : b.token ≡ Over = x.0.0.1.sane.over s.number
      (ap (λ (y : Place). y.ended) (told_place ranks b.token s.number) ∙ x.0.0.0.matches.3 ∙ ended) in
      let quiet : PictureInvariant (length t.places) (picture t) Over = subst (PictureInvariant (length t.places) (picture t)) over x.0.0.1.token in
      quiet r (subst (λ (j : ℕ). j < length t.places) number (inside ranks s.number x.0.0.0.inside), inr (full_box (place t r).mail f)))))
      (λ stopped. (let gone = x.0.2.gone r (ap (λ (k : ℕ). get_or b.stops.items k false) (sym number) ∙ x.0.2.own ∙ stopped) in
      ap (λ (y : Place). is_full y.mail) at ∙ ap (λ (m : PlainMailbox). is_full (mail_of m)) gone.1))
      x.3))
      (λ h. (let as_many = length_permutation done.ranks all done.same in
      let x = done.by_number 0 d (omega arith) in
      let size = x.0.0.0.sized in let n = x.2 in let many = length-map b.ranks.items place_of in
      ap (λ (y : Place). is_full y.mail) (get_or_past (map place_of b.ranks.items) r no_place (omega arith))))
    where
      d : PlainSeat
      d = spare all some

  -- where a seat knows of a halt, the seat of who told it shows so
  pub halters_of : Halters shown_by (Seats b) all
  halters_of k d h knows =
      let of = (rank_of (get_or all k d) (Contains-get_or all k d h)).1 in
      let seats = of.0 in
      let n = of.2 in
      let (r, by) = some_is b.halter (seats.2.knows knows) in
      let below : r < length done.ranks = (let w = seats.2.within r by in let size = seats.0.0.sized in omega arith) in
      let y = done.by_number r d below in
      let (j, lt, at) = Contains-permutation done.ranks all (get_or done.ranks r d) done.same (Contains-get_or done.ranks r d below) in
      let halted : (get_or done.ranks r d).halted ≡ true = y.0.2.by (by ∙ ap Some (sym y.1)) in
      (j, lt, ap (λ (s : PlainSeat). s.halted) (get_or_default all j d (get_or done.ranks r d) lt ∙ at) ∙ halted)
