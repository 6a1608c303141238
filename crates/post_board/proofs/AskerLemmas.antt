-- The masks of a plain board go with its mailboxes.
use Rattle.post_board.proofs.Prelude.{◌≡◌, ◌≢◌, ℕ, ◌^◌, ◌<◌, ◌≤◌, ◌==◌, refl, sym, subst, ap, ◌∙◌, true, false, eq-eqb, ne_eqb, List, length, replicate, get_or}
use Rattle.post_board.proofs.Prelude.{set, get_or-set_same, get_or-set_other, length-set, bit_or, bit_xor, None, length-replicate, bit_at-zero, dite}
use Rattle.post_board.proofs.Prelude.{ℕ_discrete, has_bit, Place, NoneAsks, Token, plain, wants, no_rank, fresh_rank, told_of, shown_by, Fits, Noted, PlainSeat}
use Rattle.post_board.proofs.Prelude.{Rest, Wants, PlainRank}
use Rattle.post_board.proofs.PlainFrames.{told_place}
use Rattle.post_board.proofs.PlainDeeds.{own_rest}
use Rattle.post_board.proofs.PlainServing.{serving_mail}
use Rattle.post_board.proofs.PlainStart.{read_of_copies}
use Rattle.post_board.proofs.BitLemmas.{bit_set, bit_else, bit_gone, bit_stays}

module _ (ranks : List PlainRank) (masks : List ℕ) (N : Noted ranks masks) (r : ℕ) (inside : r < length ranks) (x : PlainRank) where
  -- the mailbox of r asks whom it asked before
  pub noted_same : ((v : ℕ) → wants x.mailbox v ≡ wants (plain ranks r).mailbox v) → Noted (set ranks r x) masks
  noted_same same = record {
    count = N.count ∙ sym (length-set ranks r x);
    few = subst (λ (k : ℕ). k ≤ 64) (sym (length-set ranks r x)) N.few;
    asks = λ k v below. dite (ℕ_discrete k r)
        (λ e. subst (λ (j : ℕ). wants (plain (set ranks r x) j).mailbox v ≡ has_bit (get_or masks v 0) j) (sym e)
        (ap (λ (y : PlainRank). wants y.mailbox v) (get_or-set_same ranks r x no_rank inside) ∙ same v
        ∙ N.asks r v (subst (λ (m : ℕ). v < m) (length-set ranks r x) below)))
        (λ ne. ap (λ (y : PlainRank). wants y.mailbox v) (get_or-set_other ranks r k x no_rank ne)
        ∙ N.asks k v (subst (λ (m : ℕ). v < m) (length-set ranks r x) below));
  }

  -- of the rank v alone it is another question whether the mailbox of r asks it, and so says its mask
  pub noted_one : (v mask : ℕ) → v < length ranks → ((w : ℕ) → w ≢ v → wants x.mailbox w ≡ wants (plain ranks r).mailbox w) → wants x.mailbox v ≡ has_bit mask r
      → ((k : ℕ) → k ≢ r → has_bit mask k ≡ has_bit (get_or masks v 0) k) → Noted (set ranks r x) (set masks v mask)
  noted_one v mask there same here others =
      let long : v < length masks = subst (λ (m : ℕ). v < m) (sym N.count) there in
      let below : (w : ℕ) → w < length (set ranks r x) → w < length ranks = λ w h. subst (λ (m : ℕ). w < m) (length-set ranks r x) h in
      let else_masks : (w : ℕ) → w ≢ v → get_or (set masks v mask) w 0 ≡ get_or masks w 0 = λ w ne. get_or-set_other masks v w mask 0 ne in
      let at_v : get_or (set masks v mask) v 0 ≡ mask = get_or-set_same masks v mask 0 long in
      let at_r : (w : ℕ) → wants (plain (set ranks r x) r).mailbox w ≡ wants x.mailbox w =
      λ w. ap (λ (y : PlainRank). wants y.mailbox w) (get_or-set_same ranks r x no_rank inside) in
      let at_else : (k w : ℕ) → k ≢ r → wants (plain (set ranks r x) k).mailbox w ≡ wants (plain ranks k).mailbox w =
      λ k w ne. ap (λ (y : PlainRank). wants y.mailbox w) (get_or-set_other ranks r k x no_rank ne) in
      record {
        count = length-set masks v mask ∙ N.count ∙ sym (length-set ranks r x);
        few = subst (λ (k : ℕ). k ≤ 64) (sym (length-set ranks r x)) N.few;
        asks = λ k w h. dite (ℕ_discrete k r)
            (λ e. subst (λ (j : ℕ). wants (plain (set ranks r x) j).mailbox w ≡ has_bit (get_or (set masks v mask) w 0) j) (sym e) (at_r w
            ∙ dite (ℕ_discrete w v)
            (λ q. subst (λ (u : ℕ). wants x.mailbox u ≡ has_bit (get_or (set masks v mask) u 0) r) (sym q) (here ∙ ap (λ (m : ℕ). has_bit m r) (sym at_v)))
            (λ ne. same w ne ∙ N.asks r w (below w h) ∙ ap (λ (m : ℕ). has_bit m r) (sym (else_masks w ne)))))
            (λ ne. at_else k w ne ∙ N.asks k w (below w h)
            ∙ dite (ℕ_discrete w v)
            (λ q. subst (λ (u : ℕ). has_bit (get_or masks u 0) k ≡ has_bit (get_or (set masks v mask) u 0) k) (sym q)
            (sym (others k ne) ∙ ap (λ (m : ℕ). has_bit m k) (sym at_v)))
            (λ other. ap (λ (m : ℕ). has_bit m k) (sym (else_masks w other))));
      }

-- the rank r, whose mailbox was at rest, asks the rank v
pub noted_asks : (ranks : List PlainRank) (masks : List ℕ) → Noted ranks masks → (r : ℕ) → r < length ranks → (x : PlainRank) (v : ℕ) → v < length ranks
    → (plain ranks r).mailbox ≡ Rest → x.mailbox ≡ Wants v → Noted (set ranks r x) (set masks v (bit_or (get_or masks v 0) (2 ^ r)))
noted_asks ranks masks N r inside x v there rested asks =
    let mask : ℕ = get_or masks v 0 in
    noted_one ranks masks N r inside x v (bit_or mask (2 ^ r)) there
    (λ w ne. ap (λ d. wants d w) asks ∙ ne_eqb v w (λ e. ne (sym e)) ∙ ap (λ d. wants d w) (sym rested))
    (ap (λ d. wants d v) asks ∙ eq-eqb v v refl ∙ sym (bit_set mask r))
    (λ k ne. bit_else mask r k ne)

-- the rank r, which asked the rank v, asks nobody any more
pub noted_taken : (ranks : List PlainRank) (masks : List ℕ) → Noted ranks masks → (r : ℕ) → r < length ranks → (x : PlainRank) (v : ℕ) → v < length ranks
    → (plain ranks r).mailbox ≡ Wants v → ((w : ℕ) → wants x.mailbox w ≡ false)
    → Noted (set ranks r x) (set masks v (bit_xor (get_or masks v 0) (2 ^ r)))
noted_taken ranks masks N r inside x v there asked quiet =
    let mask : ℕ = get_or masks v 0 in
    let on : has_bit mask r ≡ true = sym (N.asks r v there) ∙ ap (λ d. wants d v) asked ∙ eq-eqb v v refl in
    noted_one ranks masks N r inside x v (bit_xor mask (2 ^ r)) there
    (λ w ne. quiet w ∙ sym (ap (λ d. wants d w) asked ∙ ne_eqb v w (λ e. ne (sym e))))
    (quiet v ∙ sym (bit_gone mask r on))
    (λ k ne. bit_stays mask r k ne)

-- a mask without a bit says that nobody asks
pub nobody_wants : (ranks : List PlainRank) (masks : List ℕ) → Noted ranks masks → (of : ℕ) → of < length ranks → get_or masks of 0 ≡ 0 → (r : ℕ)
    → wants (plain ranks r).mailbox of ≡ false
nobody_wants ranks masks N of there none r = N.asks r of there ∙ ap (λ (m : ℕ). has_bit m r) none ∙ ap (λ (b : ℕ). b == 1) (bit_at-zero r)

pub noted_at_first : (n : ℕ) → n ≤ 64 → Noted (replicate n fresh_rank) (replicate n 0)
noted_at_first n few = record {
  count = length-replicate n 0 ∙ sym (length-replicate n fresh_rank);
  few = subst (λ (k : ℕ). k ≤ 64) (sym (length-replicate n fresh_rank)) few;
  asks = λ r of below. read_of_copies (λ (x : PlainRank). wants x.mailbox of ≡ false) n r fresh_rank no_rank refl refl
      ∙ sym (read_of_copies (λ (m : ℕ). has_bit m r ≡ false) n of 0 0 (zero_bit r) (zero_bit r));
}
  where
    zero_bit : (r : ℕ) → has_bit 0 r ≡ false
    zero_bit r = ap (λ (b : ℕ). b == 1) (bit_at-zero r)

-- a mailbox at rest
pub rests : (ranks : List PlainRank) (token : Token) (s : PlainSeat) → Fits ranks token s → s.asked ≡ None → (plain ranks s.number).mailbox ≡ Rest
rests ranks token s fits none = own_rest s.asked (plain ranks s.number).mailbox none fits.matches.4

-- nobody asks this rank
pub none_asks : (ranks : List PlainRank) (masks : List ℕ) (token : Token) (s : PlainSeat) → Fits ranks token s → Noted ranks masks → get_or masks s.number 0 ≡ 0
    → NoneAsks (shown_by s) s.n (told_of ranks token)
none_asks ranks masks token s fits N none r below other mail =
    fits.served r (serving_mail (plain ranks r).mailbox s.number (sym (ap (λ (y : Place). y.mail) (told_place ranks token r)) ∙ mail)
    (nobody_wants ranks masks N s.number fits.inside none r))
