-- A legal step of a world is a step of its picture, so each event alone keeps the token invariant of every world that has it.
use Rattle.ring_core.proofs.Prelude.{◌≡◌, ℕ, ◌+◌, ◌-◌, ◌<◌, ◌≢◌, ◌⊎◌, inl, inr, ⊎_elim, refl, sym, subst, ap, ◌∙◌, arith, Bool, true, false, not, cond, nat_lt}
use Rattle.ring_core.proofs.Prelude.{◌==◌, ◌||◌, ◌&&◌, List, length, set, get_or-set_same, get_or-set_other, length-set, None, dite, ℕ_discrete, nat_tests}
use Rattle.ring_core.proofs.Prelude.{Colour, White, Black, Desk, Rest, Asked, Full, Empty, Token, At, Over, RankState, Event, Handle, Ask, Give, Refuse, Take}
use Rattle.ring_core.proofs.Prelude.{TakeNone, Pass, Restart, Conclude, SeeOver, fresh, rank_of, is_black, darker, is_over, is_busy, is_rest, asks, holds}
use Rattle.ring_core.proofs.Prelude.{is_refused_by, is_at, is_token_black, differs, after_giving, refusal, ranks_after, token_after, at_rest, asked_of}
use Rattle.ring_core.proofs.Prelude.{filled_by, refused_by, is_filled, RankPicture, put, Becomes, gave, PictureInvariant, mailbox_of, pictured, picture_of}
use Rattle.ring_core.proofs.Prelude.{WorldInvariant, IsStepOfPicture, HoldsSome, NoEmptyBatch, or_parts}
use Rattle.ring_core.proofs.PictureLemmas.{put_here, put_elsewhere, calm_change_keeps_invariant, event_keeps_invariant}

-- one rank of the list is replaced
pub replaced : (ranks : List RankState) (r : ℕ) (x : RankState) → r < length ranks → Becomes (picture_of ranks) r (pictured x) (picture_of (set ranks r x))
replaced ranks r x inside k = dite (ℕ_discrete k r)
    (λ e. subst (λ (j : ℕ). picture_of (set ranks r x) j ≡ put (picture_of ranks) r (pictured x) j) (sym e)
    (ap pictured (get_or-set_same ranks r x (fresh 0) inside) ∙ sym (put_here (picture_of ranks) r (pictured x))))
    (λ ne. ap pictured (get_or-set_other ranks r k x (fresh 0) ne) ∙ sym (put_elsewhere (picture_of ranks) r (pictured x) k ne))

white_is : (c : Colour) → is_black c ≡ false → c ≡ White
white_is Black e = cc
white_is White e = refl

rest_is : (d : Desk) → is_rest d ≡ true → mailbox_of d ≡ at_rest
rest_is Rest e = refl
rest_is _ e = cc

asks_is : (d : Desk) (r : ℕ) → asks d r ≡ true → mailbox_of d ≡ asked_of r
asks_is (Asked i) r e = ap asked_of (grind (arith, nat_tests))
asks_is _ r e = cc

holds_is : (d : Desk) (r k : ℕ) → holds d r k ≡ true → mailbox_of d ≡ filled_by r
holds_is (Full i j) r k e = ap filled_by (grind (arith, nat_tests))
holds_is _ r k e = cc

holds_some : (d : Desk) (r k : ℕ) → holds d r k ≡ true → HoldsSome d → 0 < k
holds_some (Full i j) r k e some = let same : j ≡ k = grind (arith, nat_tests) in omega arith
holds_some _ r k e some = cc

refused_is : (d : Desk) (r : ℕ) → is_refused_by d r ≡ true → mailbox_of d ≡ refused_by r
refused_is (Empty i) r e = ap refused_by (grind (arith, nat_tests))
refused_is _ r e = cc

-- a colour that does not differ from the darker of the two is that
is_darker : (c mine other : Colour) → differs (is_black c) (is_black mine || is_black other) ≡ false → c ≡ darker mine other
is_darker Black Black other e = refl
is_darker Black White Black e = refl
is_darker Black White White e = cc
is_darker White Black other e = cc
is_darker White White Black e = cc
is_darker White White White e = refl

token_at : (t : Token) (r : ℕ) → is_at t r ≡ true → (c : Colour) × (t ≡ At r c) × (is_black c ≡ is_token_black t)
token_at (At p c) r e = let q : p ≡ r = grind (arith, nat_tests) in (c, ap (λ (k : ℕ). At k c) q, refl)
token_at Over r e = cc

either_black : (mine other : Colour) → (is_black mine || is_black other) ≡ true → darker mine other ≡ Black
either_black Black other e = refl
either_black White Black e = refl
either_black White White e = cc

pub over_is : (t : Token) → is_over t ≡ true → t ≡ Over
over_is (At p c) e = cc
over_is Over e = refl

tried_is : (n : ℕ) (b : Bool) → 0 < n → (nat_lt 1 n && not b) ≡ false → (n ≡ 1) ⊎ (b ≡ true)
tried_is n true some e = inr refl
tried_is n false some e = inl (grind (arith, nat_tests))

-- what it means that an event is legal
pub handle_says : (ranks : List RankState) (token : Token) (rank : ℕ) (path : List ℕ) (kids : ℕ) → refusal ranks token (Handle rank path kids) ≡ None
    → (rank < length ranks) × ((rank_of ranks rank).ended ≡ false) × (is_busy (rank_of ranks rank) ≡ true)
handle_says ranks token rank path kids legal = grind (arith, nat_tests)

pub ask_says : (ranks : List RankState) (token : Token) (rank victim : ℕ) → refusal ranks token (Ask rank victim) ≡ None
    → (rank < length ranks) × (victim < length ranks) × (rank ≢ victim) × ((rank_of ranks rank).ended ≡ false)
    × (is_busy (rank_of ranks rank) ≡ false) × (is_rest (rank_of ranks rank).desk ≡ true)
ask_says ranks token rank victim legal = grind (arith, nat_tests)

pub give_says : (ranks : List RankState) (token : Token) (rank to count : ℕ) → refusal ranks token (Give rank to count) ≡ None
    → (rank < length ranks) × (to < length ranks) × (rank ≢ to) × ((rank_of ranks rank).ended ≡ false)
    × (is_busy (rank_of ranks rank) ≡ true) × (count < (rank_of ranks rank).queued) × (0 < count)
    × (asks (rank_of ranks to).desk rank ≡ true)
give_says ranks token rank to count legal = grind (arith, nat_tests)

pub refuse_says : (ranks : List RankState) (token : Token) (rank to : ℕ) → refusal ranks token (Refuse rank to) ≡ None
    → (rank < length ranks) × (to < length ranks) × (rank ≢ to) × ((rank_of ranks rank).ended ≡ false) × (asks (rank_of ranks to).desk rank ≡ true)
refuse_says ranks token rank to legal = grind (arith, nat_tests)

pub take_says : (ranks : List RankState) (token : Token) (rank from count : ℕ) → refusal ranks token (Take rank from count) ≡ None
    → (rank < length ranks) × (from < length ranks) × (rank ≢ from) × ((rank_of ranks rank).ended ≡ false) × (holds (rank_of ranks rank).desk from count ≡ true)
take_says ranks token rank from count legal = grind (arith, nat_tests)

pub take_none_says : (ranks : List RankState) (token : Token) (rank from : ℕ) → refusal ranks token (TakeNone rank from) ≡ None
    → (rank < length ranks) × (from < length ranks) × (rank ≢ from) × ((rank_of ranks rank).ended ≡ false)
    × (is_refused_by (rank_of ranks rank).desk from ≡ true)
take_none_says ranks token rank from legal = grind (arith, nat_tests)

-- the rank may move the token on
abbrev pub Holder : List RankState → Token → ℕ → Type 0
Holder ranks token rank = (rank < length ranks) × ((rank_of ranks rank).ended ≡ false) × (is_busy (rank_of ranks rank) ≡ false)
    × (is_rest (rank_of ranks rank).desk ≡ true)
    × (is_at token rank ≡ true) × ((nat_lt 1 (length ranks) && not (rank_of ranks rank).tried) ≡ false)

pub pass_says : (ranks : List RankState) (token : Token) (rank : ℕ) (colour : Colour) → refusal ranks token (Pass rank colour) ≡ None
    → Holder ranks token rank × (0 < rank) × (differs (is_black colour) (is_black (rank_of ranks rank).colour || is_token_black token) ≡ false)
pass_says ranks token rank colour legal = grind (arith, nat_tests)

pub restart_says : (ranks : List RankState) (token : Token) (rank : ℕ) → refusal ranks token (Restart rank) ≡ None
    → Holder ranks token rank × (rank ≡ 0) × ((is_black (rank_of ranks rank).colour || is_token_black token) ≡ true)
restart_says ranks token rank legal = grind (arith, nat_tests)

pub conclude_says : (ranks : List RankState) (token : Token) (rank : ℕ) → refusal ranks token (Conclude rank) ≡ None
    → Holder ranks token rank × (rank ≡ 0) × ((is_black (rank_of ranks rank).colour || is_token_black token) ≡ false)
conclude_says ranks token rank legal = grind (arith, nat_tests)

pub see_over_says : (ranks : List RankState) (token : Token) (rank : ℕ) → refusal ranks token (SeeOver rank) ≡ None
    → (rank < length ranks) × ((rank_of ranks rank).ended ≡ false) × (is_over token ≡ true)
see_over_says ranks token rank legal = grind (arith, nat_tests)

pub handle_is_step_of_picture : (ranks : List RankState) (token : Token) (rank : ℕ) (path : List ℕ) (kids : ℕ)
    → refusal ranks token (Handle rank path kids) ≡ None → IsStepOfPicture (ranks, token) (Handle rank path kids)
handle_is_step_of_picture ranks token rank path kids legal =
    let s = handle_says ranks token rank path kids legal in
    ((s.0, s.1), s.2, (is_busy (record (rank_of ranks rank) { queued = (rank_of ranks rank).queued - 1 + kids }), replaced ranks rank _ s.0), refl)

pub ask_is_step_of_picture : (ranks : List RankState) (token : Token) (rank victim : ℕ) → refusal ranks token (Ask rank victim) ≡ None
    → IsStepOfPicture (ranks, token) (Ask rank victim)
ask_is_step_of_picture ranks token rank victim legal =
    let s = ask_says ranks token rank victim legal in (
      (s.0, s.3),
      (s.1, s.2),
      rest_is (rank_of ranks rank).desk s.5,
      (λ k. replaced ranks rank (record (rank_of ranks rank) { desk = Asked victim }) s.0 k
          ∙ ap (λ (b : Bool). put (picture_of ranks) rank (record (picture_of ranks rank) { busy = b; mailbox = asked_of victim }) k) s.4),
      refl,
    )

pub give_is_step_of_picture : (ranks : List RankState) (token : Token) (rank to count : ℕ) → refusal ranks token (Give rank to count) ≡ None
    → IsStepOfPicture (ranks, token) (Give rank to count)
give_is_step_of_picture ranks token rank to count legal =
    let s = give_says ranks token rank to count legal in
    let x : RankState = record (after_giving (rank_of ranks rank) rank to) { queued = (rank_of ranks rank).queued - count } in
    let mid : List RankState = set ranks rank x in
    let inside : to < length mid = (let h = s.1 in simp length-set (omega arith)) in
    let still : is_busy x ≡ true = (let h = s.5 in grind (arith, nat_tests)) in
    let first : Becomes (picture_of ranks) rank (gave (picture_of ranks rank) rank to) (picture_of mid) =
    (λ k. replaced ranks rank x s.0 k
    ∙ ap (λ (b : Bool). put (picture_of ranks) rank (record (gave (picture_of ranks rank) rank to) { busy = b }) k)
    (still ∙ sym s.4)) in (
      (s.0, s.3),
      (s.1, s.2),
      s.4,
      asks_is (rank_of ranks to).desk rank s.7,
      (λ k. replaced mid to (record (rank_of ranks to) { desk = Full rank count }) inside k
          ∙ ap (λ (z : RankPicture). cond (k == to) (record (picture_of ranks to) { mailbox = filled_by rank }) z) (first k)),
      refl,
    )

pub refuse_is_step_of_picture : (ranks : List RankState) (token : Token) (rank to : ℕ) → refusal ranks token (Refuse rank to) ≡ None
    → IsStepOfPicture (ranks, token) (Refuse rank to)
refuse_is_step_of_picture ranks token rank to legal =
    let s = refuse_says ranks token rank to legal in
    ((s.0, s.3), (s.1, s.2), asks_is (rank_of ranks to).desk rank s.4, replaced ranks to _ s.1, refl)

-- a world may say that an empty batch is on the way; taking that one leaves a rank that is not busy
pub take_is_step_of_picture : (ranks : List RankState) (token : Token) (rank from count : ℕ) → HoldsSome (rank_of ranks rank).desk
    → refusal ranks token (Take rank from count) ≡ None → IsStepOfPicture (ranks, token) (Take rank from count)
take_is_step_of_picture ranks token rank from count some legal =
    let s = take_says ranks token rank from count legal in
    let x : RankState = record (rank_of ranks rank) { queued = (rank_of ranks rank).queued + count; desk = Rest; tried = false } in
    let busy : is_busy x ≡ true = (let h = holds_some (rank_of ranks rank).desk from count s.4 some in grind (arith, nat_tests)) in (
      (s.0, s.3),
      (s.1, s.2),
      holds_is (rank_of ranks rank).desk from count s.4,
      (λ k. replaced ranks rank x s.0 k
          ∙ ap (λ (b : Bool). put (picture_of ranks) rank (record (picture_of ranks rank) { busy = b; tried = false; mailbox = at_rest }) k)
          busy),
      refl,
    )

pub take_none_is_step_of_picture : (ranks : List RankState) (token : Token) (rank from : ℕ)
    → refusal ranks token (TakeNone rank from) ≡ None → IsStepOfPicture (ranks, token) (TakeNone rank from)
take_none_is_step_of_picture ranks token rank from legal =
    let s = take_none_says ranks token rank from legal in
    ((s.0, s.3), (s.1, s.2), refused_is (rank_of ranks rank).desk from s.4, replaced ranks rank _ s.0, refl)

pub pass_is_step_of_picture : (ranks : List RankState) (token : Token) (rank : ℕ) (colour : Colour)
    → refusal ranks token (Pass rank colour) ≡ None → IsStepOfPicture (ranks, token) (Pass rank colour)
pass_is_step_of_picture ranks token rank colour legal =
    let (s, above, mix) = pass_says ranks token rank colour legal in
    let (c, here, dark) = token_at token rank s.4 in
    let alone_or_tried : (length ranks ≡ 1)
    ⊎ ((rank_of ranks rank).tried ≡ true) = tried_is (length ranks) (rank_of ranks rank).tried (let h = s.0 in omega arith) s.5 in (
      (s.0, s.1),
      above,
      s.2,
      rest_is (rank_of ranks rank).desk s.3,
      ⊎_elim (λ alone. (let h = s.0 in absurd (omega arith))) (λ tried. tried) alone_or_tried,
      (
        c,
        here,
        is_darker colour (rank_of ranks rank).colour c
            (subst (λ (b : Bool). differs (is_black colour) (is_black (rank_of ranks rank).colour || b) ≡ false) (sym dark) mix),
      ),
      replaced ranks rank _ s.0,
      refl,
    )

pub restart_is_step_of_picture : (ranks : List RankState) (token : Token) (rank : ℕ) → refusal ranks token (Restart rank) ≡ None
    → IsStepOfPicture (ranks, token) (Restart rank)
restart_is_step_of_picture ranks token rank legal =
    let (s, first, black) = restart_says ranks token rank legal in
    let (c, here, dark) = token_at token rank s.4 in (
      (s.0, s.1),
      first,
      rest_is (rank_of ranks rank).desk s.3,
      ⊎_elim (λ alone. inl alone) (λ tried. inr (s.2, tried)) (tried_is (length ranks) (rank_of ranks rank).tried (let h = s.0 in omega arith) s.5),
      (c, here, either_black (rank_of ranks rank).colour c (subst (λ (b : Bool). (is_black (rank_of ranks rank).colour || b) ≡ true) (sym dark) black)),
      (λ k. replaced ranks rank (record (rank_of ranks rank) { colour = White }) s.0 k
          ∙ ap (λ (b : Bool). put (picture_of ranks) rank (record (picture_of ranks rank) { busy = b; colour = White }) k) s.2),
      refl,
    )

pub conclude_is_step_of_picture : (ranks : List RankState) (token : Token) (rank : ℕ) → refusal ranks token (Conclude rank) ≡ None
    → IsStepOfPicture (ranks, token) (Conclude rank)
conclude_is_step_of_picture ranks token rank legal =
    let (s, first, pale) = conclude_says ranks token rank legal in
    let (c, here, dark) = token_at token rank s.4 in
    let (mine, other) = or_parts (is_black (rank_of ranks rank).colour) (is_token_black token) pale in (
      (s.0, s.1),
      first,
      s.2,
      rest_is (rank_of ranks rank).desk s.3,
      tried_is (length ranks) (rank_of ranks rank).tried (let h = s.0 in omega arith) s.5,
      here ∙ ap (λ (x : Colour). At rank x) (white_is c (dark ∙ other)),
      white_is (rank_of ranks rank).colour mine,
      replaced ranks rank _ s.0,
      refl,
    )

pub see_over_is_step_of_picture : (ranks : List RankState) (token : Token) (rank : ℕ) → refusal ranks token (SeeOver rank) ≡ None
    → IsStepOfPicture (ranks, token) (SeeOver rank)
see_over_is_step_of_picture ranks token rank legal =
    let s = see_over_says ranks token rank legal in
    ((s.0, s.1), over_is token s.2, replaced ranks rank _ s.0, refl)

pub event_is_step_of_picture : (ranks : List RankState) (token : Token) (event : Event) → NoEmptyBatch ranks
    → refusal ranks token event ≡ None → IsStepOfPicture (ranks, token) event
event_is_step_of_picture ranks token (Handle rank path kids) some legal = handle_is_step_of_picture ranks token rank path kids legal
event_is_step_of_picture ranks token (Ask rank victim) some legal = ask_is_step_of_picture ranks token rank victim legal
event_is_step_of_picture ranks token (Give rank to count) some legal = give_is_step_of_picture ranks token rank to count legal
event_is_step_of_picture ranks token (Refuse rank to) some legal = refuse_is_step_of_picture ranks token rank to legal
event_is_step_of_picture ranks token (Take rank from count) some legal = take_is_step_of_picture ranks token rank from count (some rank) legal
event_is_step_of_picture ranks token (TakeNone rank from) some legal = take_none_is_step_of_picture ranks token rank from legal
event_is_step_of_picture ranks token (Pass rank colour) some legal = pass_is_step_of_picture ranks token rank colour legal
event_is_step_of_picture ranks token (Restart rank) some legal = restart_is_step_of_picture ranks token rank legal
event_is_step_of_picture ranks token (Conclude rank) some legal = conclude_is_step_of_picture ranks token rank legal
event_is_step_of_picture ranks token (SeeOver rank) some legal = see_over_is_step_of_picture ranks token rank legal

-- an event leaves as many ranks as there were
pub length-ranks_after : (ranks : List RankState) (event : Event) → length (ranks_after ranks event) ≡ length ranks
length-ranks_after ranks (Handle rank path kids) = simp length-set
length-ranks_after ranks _ = simp length-set

-- the picture after the event has the invariant
abbrev LeavesInvariant : List RankState → Token → Event → Type 0
LeavesInvariant ranks token event = PictureInvariant (length ranks) (picture_of (ranks_after ranks event)) (token_after ranks token event)

from_picture : (ranks : List RankState) (token : Token) (event : Event) → WorldInvariant (ranks, token)
    → IsStepOfPicture (ranks, token) event → LeavesInvariant ranks token event
from_picture ranks token event held step =
    event_keeps_invariant (length ranks) (picture_of ranks) token event (picture_of (ranks_after ranks event)) (token_after ranks token event) step held

-- also where the batch is empty
take_leaves_invariant : (ranks : List RankState) (token : Token) (rank from count : ℕ) → refusal ranks token (Take rank from count) ≡ None
    → WorldInvariant (ranks, token) → LeavesInvariant ranks token (Take rank from count)
take_leaves_invariant ranks token rank from count legal held =
    let s = take_says ranks token rank from count legal in
    calm_change_keeps_invariant (length ranks) (picture_of ranks) token rank _ _ (replaced ranks rank _ s.0)
    (λ active. inr (ap is_filled (holds_is (rank_of ranks rank).desk from count s.4))) (λ dark. dark) held

leaves_invariant : (ranks : List RankState) (token : Token) (event : Event) → refusal ranks token event ≡ None
    → WorldInvariant (ranks, token) → LeavesInvariant ranks token event
leaves_invariant ranks token (Handle rank path kids) legal held =
    from_picture ranks token (Handle rank path kids) held (handle_is_step_of_picture ranks token rank path kids legal)
leaves_invariant ranks token (Ask rank victim) legal held =
    from_picture ranks token (Ask rank victim) held (ask_is_step_of_picture ranks token rank victim legal)
leaves_invariant ranks token (Give rank to count) legal held =
    from_picture ranks token (Give rank to count) held (give_is_step_of_picture ranks token rank to count legal)
leaves_invariant ranks token (Refuse rank to) legal held = from_picture ranks token (Refuse rank to) held (refuse_is_step_of_picture ranks token rank to legal)
leaves_invariant ranks token (Take rank from count) legal held = take_leaves_invariant ranks token rank from count legal held
leaves_invariant ranks token (TakeNone rank from) legal held =
    from_picture ranks token (TakeNone rank from) held (take_none_is_step_of_picture ranks token rank from legal)
leaves_invariant ranks token (Pass rank colour) legal held =
    from_picture ranks token (Pass rank colour) held (pass_is_step_of_picture ranks token rank colour legal)
leaves_invariant ranks token (Restart rank) legal held = from_picture ranks token (Restart rank) held (restart_is_step_of_picture ranks token rank legal)
leaves_invariant ranks token (Conclude rank) legal held = from_picture ranks token (Conclude rank) held (conclude_is_step_of_picture ranks token rank legal)
leaves_invariant ranks token (SeeOver rank) legal held = from_picture ranks token (SeeOver rank) held (see_over_is_step_of_picture ranks token rank legal)

pub event_keeps_world_invariant : (ranks : List RankState) (token : Token) (event : Event) → refusal ranks token event ≡ None
    → WorldInvariant (ranks, token) → WorldInvariant (ranks_after ranks event, token_after ranks token event)
event_keeps_world_invariant ranks token event legal held =
    subst (λ (n : ℕ). PictureInvariant n (picture_of (ranks_after ranks event)) (token_after ranks token event))
    (sym (length-ranks_after ranks event)) (leaves_invariant ranks token event legal held)
