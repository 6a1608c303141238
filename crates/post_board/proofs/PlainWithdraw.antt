-- A rank of a plain board takes back its request to a rank that has stopped.
use Rattle.post_board.proofs.Prelude.{◌≡◌, ℕ, ◌^◌, ◌<◌, ◌≢◌, refl, sym, subst, ap, ◌∙◌, Bool, true, false, List, length, set, get_or, get_or-set_same}
use Rattle.post_board.proofs.Prelude.{get_or-set_other, bit_xor, Option, Some, None, Token, victim_of, vacant, Place, Told, put_place, Sound, Late, withdraw}
use Rattle.post_board.proofs.Prelude.{LegalLate, told_late, told_of, worded, no_rank, plain, wants, shown_by, Match, Noted, HaltFits, IsSeat, Rest, Wants}
use Rattle.post_board.proofs.Prelude.{Served, PlainRank, PlainSeat}
use Rattle.post_board.proofs.AskerLemmas.{noted_taken}
use Rattle.post_board.proofs.LateDeeds.{sound_worded, late_sound}
use Rattle.post_board.proofs.PlainDeeds.{acts, inside, mine, matching, mail_is, asked_is, unlike}
use Rattle.post_board.proofs.PlainServing.{wants_is}
use Rattle.post_board.proofs.PlainFrames.{told_put, told_place, Alike, frame}
use Rattle.post_board.proofs.PlainHalts.{Keeps, keeps_put}

-- what a rank does that is no event makes of a plain board and of the seats
pub record DoneLate (me : ℕ) (d : Late) (halter : Option ℕ) (stops : List Bool) (ranks : List PlainRank) (masks : List ℕ) (token : Token)
    (ranks' : List PlainRank) (masks' : List ℕ) (s' : PlainSeat) : Type 0 where
  pub told : LegalLate me d (worded halter stops (told_of ranks token))
      × (Some (worded halter stops (told_of ranks' token)) ≡ Some (told_late me d (worded halter stops (told_of ranks token))))
  pub mine : IsSeat ranks' token s' × Noted ranks' masks' × HaltFits halter stops ranks' s'
  pub others : (o : PlainSeat) → o.number ≢ me → IsSeat ranks token o × Noted ranks masks × HaltFits halter stops ranks o
      → IsSeat ranks' token o × Noted ranks' masks' × HaltFits halter stops ranks' o

no_victim : (v : ℕ) (P : Type 0) → None ≡ Some v → P
no_victim v P e = cc

pub withdrawn : (halter : Option ℕ) (stops : List Bool) (ranks : List PlainRank) (masks : List ℕ) (token : Token) (s : PlainSeat) (x : PlainRank) (v : ℕ)
    → x ≡ plain ranks s.number → wants (plain ranks s.number).mailbox v ≡ true → get_or stops v false ≡ true → s.asked ≡ Some v
    → IsSeat ranks token s × Noted ranks masks × HaltFits halter stops ranks s → (s.ended ≡ false) × (s.stopped ≡ false)
    → DoneLate s.number (withdraw (victim_of (shown_by s))) halter stops ranks masks token (set ranks s.number (record x { tried = true; mailbox = Rest }))
    (set masks v (bit_xor (get_or masks v 0) (2 ^ s.number))) (record s { asked = None; tried = true })
withdrawn halter stops ranks masks token s x v e asks left asked seat live =
    let me : ℕ = s.number in
    let fits = seat.0.0 in
    let lies : (plain ranks me).mailbox ≡ Wants v = wants_is (plain ranks me).mailbox v asks in
    let gone = seat.2.gone v left in
    let m : Match x s = matching ranks token s x e fits in
    let away : (v < length ranks) × (v ≢ me) = fits.away v asked in
    let new : PlainRank = record x { tried = true; mailbox = Rest } in
    let s' : PlainSeat = record s { asked = None; tried = true } in
    let ranks' : List PlainRank = set ranks me new in
    let t : Told = told_of ranks token in
    let legal : LegalLate me (withdraw v) (worded halter stops t) = (
      acts ranks token s seat.0 live.0,
      (inside ranks v away.0, (λ q. away.1 (sym q))),
      mail_is ranks token s x (Wants v) e (ap (λ (y : PlainRank). y.mailbox) e ∙ lies),
      left,
      ap (λ (y : Place). y.ended) (told_place ranks token v) ∙ gone.0,
    ) in
    let told : worded halter stops (told_of ranks' token) ≡ told_late me (withdraw v) (worded halter stops t) =
    ap (worded halter stops) (told_put ranks token token me new)
    ∙ sym (ap (λ (y : Place). worded halter stops (put_place t me (record y { tried = true; mail = vacant }))) (mine ranks token s x e)) in
    let sound : Sound (told_of ranks' token) = sound_worded (worded halter stops (told_of ranks' token)) (told_of ranks' token) refl refl
    (subst Sound (sym told) (late_sound me (withdraw v) (worded halter stops t) legal (sound_worded t (worded halter stops t) refl refl seat.0.1))) in
    let keeps : Keeps halter stops ranks ranks' = keeps_put halter stops ranks me new (seat.2.own ∙ live.1) (λ k q. cc) in
    let alike : (k : ℕ) → Alike Rest (plain ranks me).mailbox k = λ k. unlike Rest (plain ranks me).mailbox k (λ q. cc)
    (λ q. (let f : Wants v ≡ Served k = sym lies ∙ q in cc)) in
    let noted : Noted ranks' (set masks v (bit_xor (get_or masks v 0) (2 ^ me))) =
    noted_taken ranks masks seat.1 me fits.inside new v away.0 lies (λ w. refl) in
    subst (λ (k : ℕ). DoneLate me (withdraw k) halter stops ranks masks token ranks' (set masks v (bit_xor (get_or masks v 0) (2 ^ me))) s')
    (sym (asked_is s.asked v asked))
    record {
      told = (legal, ap Some told);
      mine = (
        (
          frame ranks token token me new s s' fits.inside fits refl refl refl (λ w q. no_victim w _ q) (alike me)
              (subst (λ (y : PlainRank). Match y s') (sym (get_or-set_same ranks me new no_rank fits.inside)) (m.0, m.1, refl, m.3, refl)) fits.here,
          sound,
        ),
        noted,
        keeps s s' seat.2 (refl, refl, refl, refl),
      );
      others = λ o ne b. (
        (
          frame ranks token token me new o o fits.inside b.0.0 refl refl refl b.0.0.away (alike o.number)
              (subst (λ (y : PlainRank). Match y o) (sym (get_or-set_other ranks me o.number new no_rank ne)) b.0.0.matches) b.0.0.here,
          sound,
        ),
        noted,
        keeps o o b.2 (refl, refl, refl, refl),
      );
    }
