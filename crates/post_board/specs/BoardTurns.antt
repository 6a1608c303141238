-- Each step on a board of atomic words changes its picture by one deed of the rank whose seat steps, or not at all. A record has the steps on
-- mailboxes, one those on the ring, and one those by which ranks halt and stop. Deeds are EWD840's (Dijkstra, Feijen, van Gasteren), and our own.
use Rattle.std.specs.Prelude.{◌≡◌, ◌≢◌, ℕ, ◌-◌, ◌<◌, ◌⊎◌, Bool, true, false, [], Some}
use Rattle.ring_core.specs.Picture.{put}
use Rattle.ring_core.specs.World.{darker}
use Rattle.ring_core.specs.declared.states.Colour.{Colour}
use Rattle.ring_core.specs.declared.states.Colour.TheVariants.{White, Black}
use Rattle.ring_core.specs.declared.states.Token.{Token}
use Rattle.ring_core.specs.declared.states.Token.TheVariants.{At, Over}
use Rattle.post_board.specs.Shown.{Strings}
use Rattle.post_board.specs.Told.{Told}
use Rattle.post_board.specs.Deeds.{Deed, ask, give, refuse, take, take_none, pass, restart, conclude, see_over, told_after, Legal, withdraw, told_late}
use Rattle.post_board.specs.Words.{Sign, resting, asking, serving, full, fetching, emptied}
use Rattle.post_board.specs.BoardRule.{TableState, Rule, told_of, signs_in, token_in, serves}
use Rattle.post_board.specs.BoardMoments.{told_at}
use Rattle.post_board.specs.BoardSteps.{noted, after_ask, after_look, after_taking, after_post, after_refusing, after_fetch, after_rest}
use Rattle.post_board.specs.BoardSteps.{heard_at, after_pass, after_restart, after_conclude}
use Rattle.post_board.specs.LateSteps.{after_halt, halt_seen, after_stop, after_stops}
use Rattle.post_board.specs.declared.board_views.Known.{Known}
use Rattle.post_board.specs.declared.board_views.OwnMailbox.TheVariants.{Resting, Left, Filled, Emptied, Getting}

-- A step of the seat of the rank `id` under the rule. The seat learns something, and a word changes or none does.
module _ (n : ℕ) (s : TableState) (o : Rule n s) (id : ℕ) where
  -- the knowledge of the seat before the step
  abbrev pub own : Known
  own = o.known id

  -- the mailboxes, if that of the rank r says d then
  abbrev pub signs_but : ℕ → Sign → ℕ → Sign
  signs_but r d = put (signs_in n s.words) r d

  -- the picture, if the seat knows w then
  abbrev pub told_with : Known → (ℕ → Sign) → Token → Told
  told_with w signs token = told_of n (put o.known id w) signs token

  -- the step is this deed: it may be done, and leaves the picture that the deed leaves
  abbrev pub IsDeed : Deed → Known → (ℕ → Sign) → Token → Type 0
  IsDeed deed w signs token = Legal id deed (told_at n s o) × (told_after id deed (told_at n s o) ≡ told_with w signs token)

  -- the step is not a deed: the picture is as before
  abbrev pub IsNone : Known → (ℕ → Sign) → Type 0
  IsNone w signs = told_with w signs (token_in s.words) ≡ told_at n s o

-- the steps on mailboxes. Batches are left out of the picture
pub record MailboxTurns (n : ℕ) (s : TableState) (o : Rule n s) (id : ℕ) : Type 0 where
  pub asks : (victim word found : ℕ) → victim < n → victim ≢ id → (own n s o id).own ≡ Resting
      → IsDeed n s o id (ask victim) (after_ask (own n s o id) victim word found) (signs_but n s o id id (asking victim)) (token_in s.words)
  pub looks : (word found : ℕ) → IsNone n s o id (after_look (own n s o id) word found) (signs_in n s.words)
  pub takes_up : (r word found : ℕ) → signs_in n s.words r ≡ asking id
      → IsNone n s o id (after_taking (own n s o id) r word found) (signs_but n s o id r (serving id))
  pub scans : (word found left : ℕ) → IsNone n s o id (noted (own n s o id) word found left) (signs_in n s.words)
  pub gives : (r word found : ℕ) (batch : Strings) → r < n → serves (own n s o id) r ≡ true → (own n s o id).busy ≡ true
      → IsDeed n s o id (give r []) (after_post (own n s o id) r word found batch) (signs_but n s o id r (full id)) (token_in s.words)
  pub refuses : (r word found : ℕ) → r < n → serves (own n s o id) r ≡ true
      → IsDeed n s o id (refuse r) (after_refusing (own n s o id) r word found) (signs_but n s o id r (emptied id)) (token_in s.words)
  pub fetches : (from word found : ℕ) (batch : Strings) → (own n s o id).own ≡ Filled from
      → IsDeed n s o id (take from []) (after_fetch (own n s o id) from word found batch) (signs_but n s o id id (fetching from)) (token_in s.words)
  pub rests : (from word found : ℕ) → (own n s o id).own ≡ Getting from
      → IsNone n s o id (after_rest (own n s o id) word found (own n s o id).tried) (signs_but n s o id id resting)
  pub gives_up : (from word found : ℕ) → (own n s o id).own ≡ Emptied from
      → IsDeed n s o id (take_none from) (after_rest (own n s o id) word found true) (signs_but n s o id id resting) (token_in s.words)

-- the steps on the ring
pub record RingTurns (n : ℕ) (s : TableState) (o : Rule n s) (id : ℕ) : Type 0 where
  pub sees_over : (found left : ℕ) → token_in s.words ≡ Over
      → IsDeed n s o id see_over (heard_at (noted (own n s o id) 0 found left) Over) (signs_in n s.words) (token_in s.words)
  pub sees : (found left p : ℕ) (c : Colour) → IsNone n s o id (heard_at (noted (own n s o id) 0 found left) (At p c)) (signs_in n s.words)
  pub passes : (found left : ℕ) (c : Colour) → (own n s o id).own ≡ Resting → (own n s o id).tried ≡ true → (own n s o id).here ≡ Some c → 0 < id
      → IsDeed n s o id (pass (darker (own n s o id).colour c)) (after_pass (own n s o id) found left) (signs_in n s.words)
      (At (id - 1) (darker (own n s o id).colour c))
  pub restarts : (found left : ℕ) (c : Colour) → (own n s o id).own ≡ Resting → (n ≡ 1) ⊎ ((own n s o id).tried ≡ true)
      → (own n s o id).here ≡ Some c → id ≡ 0 → darker (own n s o id).colour c ≡ Black
      → IsDeed n s o id restart (after_restart (own n s o id) found left) (signs_in n s.words) (At (n - 1) White)
  pub concludes : (found left : ℕ) → (own n s o id).own ≡ Resting → (n ≡ 1) ⊎ ((own n s o id).tried ≡ true)
      → (own n s o id).here ≡ Some White → id ≡ 0 → (own n s o id).colour ≡ White
      → IsDeed n s o id conclude (after_conclude (own n s o id) found left) (signs_in n s.words) Over

-- the steps by which ranks halt and stop. A request that is taken back from a rank that has stopped is not a deed of EWD840's: it leaves the asker
-- as a refusal would
pub record HaltTurns (n : ℕ) (s : TableState) (o : Rule n s) (id : ℕ) : Type 0 where
  pub halts : (word found : ℕ) → IsNone n s o id (after_halt (own n s o id) word found) (signs_in n s.words)
  pub hears : (word found left : ℕ) (halted : Bool) → IsNone n s o id (halt_seen (noted (own n s o id) word found left) halted) (signs_in n s.words)
  pub stops : (word found : ℕ) → IsNone n s o id (after_stop (own n s o id) word found) (signs_in n s.words)
  pub hears_stops : (word found : ℕ) → IsNone n s o id (after_stops (own n s o id) word found) (signs_in n s.words)
  pub withdraws : (v word found : ℕ) → (own n s o id).own ≡ Left v → signs_in n s.words id ≡ asking v
      → told_with n s o id (after_rest (own n s o id) word found true) (signs_but n s o id id resting) (token_in s.words)
      ≡ told_late id (withdraw v) (told_at n s o)

-- so at every moment, for the seat of a rank that has not ended
abbrev pub StepsAreDeeds : ((n : ℕ) (s : TableState) (o : Rule n s) (id : ℕ) → Type 0) → Type 0
StepsAreDeeds Turns = (n : ℕ) (s : TableState) (o : Rule n s) (id : ℕ) → id < n → (o.known id).ended ≡ false → Turns n s o id
