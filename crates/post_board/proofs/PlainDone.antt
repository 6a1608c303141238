-- A deed by which a rank of a plain board changes its own place: the masks, the halt and the stops stay right.
use Rattle.post_board.proofs.Prelude.{◌≡◌, ℕ, sym, ap, ◌∙◌, false, set, get_or, get_or_read, Token, Deed, no_rank, plain, wants, PlainBoard, PlainMailbox, Rest}
use Rattle.post_board.proofs.Prelude.{Served, PlainRank, PlainSeat}
use Rattle.post_board.specs.Plain.{Seats}
use Rattle.post_board.proofs.PlainFrames.{After}
use Rattle.post_board.proofs.AskerLemmas.{noted_same}
use Rattle.post_board.proofs.PlainHalts.{SameWords, Done, done_by, keeps_own, keeps_put}

module _ (b : PlainBoard) (s : PlainSeat) (seat : Seats b s) where
  -- the place of the seat's rank, as a body reads it
  pub own_read : (x : PlainRank) → x ≡ get_or b.ranks.items s.number x → x ≡ plain b.ranks.items s.number
  own_read x e = get_or_read b.ranks.items s.number x seat.0.0.inside e no_rank

  -- the rank x becomes y by a deed, and the words of the board stay
  abbrev Becomes : Deed → PlainRank → Token → PlainSeat → Type 0
  Becomes d y token' s' = After s.number d b.ranks.items b.token (set b.ranks.items s.number y) token' s'

  abbrev pub OwnDone : Deed → PlainRank → Token → PlainSeat → Type 0
  OwnDone d y token' s' = Done s.number d b.halter b.stops.items b.ranks.items b.askers.masks.items b.token (set b.ranks.items s.number y)
      b.askers.masks.items token' s'

  -- a deed that leaves the own mailbox as it is
  pub done_kept : {d : Deed} {x : PlainRank} (y : PlainRank) {token' : Token} {s' : PlainSeat} → Becomes d y token' s' → x ≡ plain b.ranks.items s.number
      → y.mailbox ≡ x.mailbox → SameWords s s' → s.stopped ≡ false → OwnDone d y token' s'
  done_kept {d} {x} y {token'} {s'} after read keeps words live =
      let same : y.mailbox ≡ (plain b.ranks.items s.number).mailbox = keeps ∙ ap (λ (z : PlainRank). z.mailbox) read in
      done_by after
      (noted_same b.ranks.items b.askers.masks.items seat.1 s.number seat.0.0.inside y (λ v. ap (λ (m : PlainMailbox). wants m v) same))
      seat.2 (keeps_own b.halter b.stops.items b.ranks.items s y seat.2 live same) words

  -- a deed by which the own mailbox comes to rest, where it asked nobody
  pub done_rest : {d : Deed} {x : PlainRank} (y : PlainRank) {token' : Token} {s' : PlainSeat} → Becomes d y token' s' → x ≡ plain b.ranks.items s.number
      → ((v : ℕ) → wants x.mailbox v ≡ false) → y.mailbox ≡ Rest → SameWords s s' → s.stopped ≡ false → OwnDone d y token' s'
  done_rest {d} {x} y {token'} {s'} after read asks rests words live =
      done_by after
      (noted_same b.ranks.items b.askers.masks.items seat.1 s.number seat.0.0.inside y (λ v. ap (λ (m : PlainMailbox). wants m v) rests
      ∙ sym (ap (λ (z : PlainRank). wants z.mailbox v) (sym read) ∙ asks v)))
      seat.2 (keeps_put b.halter b.stops.items b.ranks.items s.number y (seat.2.own ∙ live)
      (λ k e. (let lies : Rest ≡ Served k = sym rests ∙ e in cc))) words
