-- What the rule of a board of atomic words says of every moment.
use Rattle.post_board.proofs.Prelude.{◌≡◌, ℕ, ◌<◌, subst, ap, ◌∙◌, arith, true, length, PictureInvariant, Over, Place, picture, Sound, Sign, TableState, Rule}
use Rattle.post_board.proofs.Prelude.{signs_in, slots_in, token_in, told_at, NothingLeft}
use Rattle.post_board.proofs.Sheets.{places, place_at, sheet_size}
use Rattle.post_board.proofs.MailboxLemmas.{not_full}
use Rattle.post_board.proofs.RingLemmas.{sound_now, over_quiet}

module _ (n : ℕ) (s : TableState) (o : Rule n s) where
  sound_there : 0 < n → Sound (told_at n s o)
  sound_there some = sound_now n o.known (signs_in n s.words) (token_in s.words) o.moment.ring some

  pub token_holds : 0 < n → PictureInvariant n (picture (told_at n s o)) (token_in s.words)
  token_holds some =
      let size : length (told_at n s o).places ≡ n = sheet_size n (places o.known (signs_in n s.words)) in
      subst (λ (m : ℕ). PictureInvariant m (picture (told_at n s o)) (token_in s.words)) size (sound_there some).token

  -- where a rank's seat has seen the end, the token tells it
  pub ended_over : (r : ℕ) → r < n → (o.known r).ended ≡ true → token_in s.words ≡ Over
  ended_over r h ended =
      let there = place_at n (places o.known (signs_in n s.words)) (token_in s.words) r h in
      (sound_there (omega arith)).sane.over r (ap (λ (x : Place). x.ended) there ∙ ended)

  pub nothing_left : (r : ℕ) → r < n → (o.known r).ended ≡ true → NothingLeft n s o
  nothing_left r h ended k inside =
      let signs : ℕ → Sign = signs_in n s.words in
      let quiet = over_quiet n o.known signs (token_in s.words) o.moment.ring (ended_over r h ended) k inside in
      (quiet.0, λ i. not_full (signs k) i (slots_in s.homes k) quiet.1)
