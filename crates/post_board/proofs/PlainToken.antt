-- What moving the token on and ending the run do to a plain board.
use Rattle.post_board.proofs.Prelude.{◌≡◌, ℕ, ◌-◌, ◌<◌, ◌⊎◌, inl, inr, ⊎_elim, refl, sym, subst, ap, ◌∙◌, true, false, List, length, map, set, Option, Some}
use Rattle.post_board.proofs.Prelude.{None, length-map, Colour, White, Black, Token, At, Over, darker, is_here, token_of, mixed, PictureInvariant, Place, Told}
use Rattle.post_board.proofs.Prelude.{place, put_place, picture, pass, restart, conclude, place_of, told_of, plain, token_colour, shown_by, HereFits, IsSeat}
use Rattle.post_board.proofs.Prelude.{Rest, PlainRank, PlainSeat, false_from_ne_true}
use Rattle.post_board.proofs.PlainFrames.{After, told_place, own}
use Rattle.post_board.proofs.PlainDeeds.{acts, alike_same, inside, mail_is, matching, mine, not_here, own_rest}

here_is : (h : Option Colour) (r : ℕ) (token : Token) → elim h [ None ↦ false | Some c ↦ true ] ≡ true → HereFits h r token
    → token ≡ At r (elim h [ None ↦ Black | Some c ↦ c ])
here_is None r token e fits = cc
here_is (Some c) r token e fits = fits

lazy : (ranks : List PlainRank) (token : Token) (s : PlainSeat) → IsSeat ranks token s → s.tried ≡ true → (place (told_of ranks token) s.number).busy ≡ false
lazy ranks token s seat tried = seat.1.sane.tried s.number (ap (λ (y : Place). y.tried) (told_place ranks token s.number) ∙ seat.0.matches.2 ∙ tried)

pass_mixed : (ranks : List PlainRank) (token : Token) (s : PlainSeat) (x : PlainRank) → x ≡ plain ranks s.number → IsSeat ranks token s
    → s.ended ≡ false → s.asked ≡ None → is_here (shown_by s) ≡ true → s.tried ≡ true → 0 < s.number
    → After s.number (pass (mixed (shown_by s))) ranks token (set ranks s.number (record x { colour = White }))
    (At (s.number - 1) (mixed (shown_by s))) (record s { colour = White; here = None })
pass_mixed ranks token s x e seat live rest here tried above =
    let m = matching ranks token s x e seat.0 in
    let at : token ≡ At s.number (token_of (shown_by s)) = here_is s.here s.number token here seat.0.here in
    let colour : (place (told_of ranks token) s.number).colour ≡ s.colour = ap (λ (y : Place). y.colour) (told_place ranks token s.number) ∙ seat.0.matches.1 in
    own (pass (mixed (shown_by s))) ranks token (At (s.number - 1) (mixed (shown_by s))) s (record s { colour = White; here = None })
    (record x { colour = White }) seat (
      acts ranks token s seat live,
      above,
      lazy ranks token s seat tried,
      mail_is ranks token s x Rest e (own_rest s.asked x.mailbox rest m.4),
      (token_of (shown_by s), at, ap (λ (c : Colour). darker c (token_of (shown_by s))) (sym colour)),
      ap (λ (y : Place). y.tried) (told_place ranks token s.number) ∙ seat.0.matches.2 ∙ tried,
    )
    (ap (λ (y : Place). record (put_place (told_of ranks token) s.number (record y { colour = White })) {
      token =
          At (s.number - 1) (mixed (shown_by s));
    }) (mine ranks token s x e))
    refl refl refl seat.0.away (λ k. alike_same x.mailbox (plain ranks s.number).mailbox k (ap (λ (y : PlainRank). y.mailbox) e))
    (m.0, refl, m.2, m.3, m.4) tt (λ o ne h. not_here o token _ s.number _ ne at h)

colour_of : (token : Token) (r : ℕ) (c : Colour) → token ≡ At r c → token_colour token ≡ c
colour_of (At p d) r c e = cc
colour_of Over r c e = cc

pub pass_deed : (ranks : List PlainRank) (token : Token) (s : PlainSeat) (x : PlainRank) (held colour : Colour) → x ≡ plain ranks s.number
    → held ≡ token_colour token → colour ≡ darker s.colour held → IsSeat ranks token s → s.ended ≡ false → s.asked ≡ None
    → is_here (shown_by s) ≡ true → s.tried ≡ true → 0 < s.number
    → After s.number (pass (mixed (shown_by s))) ranks token (set ranks s.number (record x { colour = White })) (At (s.number - 1) colour)
    (record s { colour = White; here = None })
pass_deed ranks token s x held colour e h mix seat live rest here tried above =
    let at : token ≡ At s.number (token_of (shown_by s)) = here_is s.here s.number token here seat.0.here in
    let same : colour ≡ mixed (shown_by s) = mix ∙ ap (λ (c : Colour). darker s.colour c) (h ∙ colour_of token s.number (token_of (shown_by s)) at) in
    subst (λ (c : Colour). After s.number (pass (mixed (shown_by s))) ranks token (set ranks s.number (record x { colour = White }))
    (At (s.number - 1) c) (record s { colour = White; here = None })) (sym same)
    (pass_mixed ranks token s x e seat live rest here tried above)

pub restart_deed : (ranks : List PlainRank) (token : Token) (s : PlainSeat) (x : PlainRank) → x ≡ plain ranks s.number → IsSeat ranks token s
    → s.ended ≡ false → s.asked ≡ None → is_here (shown_by s) ≡ true → (s.n ≡ 1) ⊎ (s.tried ≡ true) → s.number ≡ 0 → mixed (shown_by s) ≡ Black
    → After s.number restart ranks token (set ranks s.number (record x { busy = false; colour = White })) (At (s.n - 1) White)
    (record s { colour = White; here = None; busy = false })
restart_deed ranks token s x e seat live rest here tried first black =
    let m = matching ranks token s x e seat.0 in
    let at : token ≡ At s.number (token_of (shown_by s)) = here_is s.here s.number token here seat.0.here in
    let colour : (place (told_of ranks token) s.number).colour ≡ s.colour = ap (λ (y : Place). y.colour) (told_place ranks token s.number) ∙ seat.0.matches.1 in
    let count : length (map place_of ranks) ≡ s.n = length-map ranks place_of ∙ sym seat.0.sized in
    own restart ranks token (At (s.n - 1) White) s (record s { colour = White; here = None; busy = false }) (record x { busy = false; colour = White }) seat (
      acts ranks token s seat live,
      first,
      ⊎_elim (λ one. inl (count ∙ one))
          (λ t. inr (lazy ranks token s seat t, ap (λ (y : Place). y.tried) (told_place ranks token s.number) ∙ seat.0.matches.2 ∙ t)) tried,
      mail_is ranks token s x Rest e (own_rest s.asked x.mailbox rest m.4),
      (token_of (shown_by s), at, ap (λ (c : Colour). darker c (token_of (shown_by s))) colour ∙ black),
    )
    (ap (λ (y : Place). record (put_place (told_of ranks token) s.number (record y { busy = false; colour = White })) {
      token =
          At (length (map place_of ranks) - 1) White;
    }) (mine ranks token s x e)
    ∙ ap (λ (n : ℕ). record (put_place (told_of ranks token) s.number (record (place_of x) { busy = false; colour = White }))
    { token = At (n - 1) White }) count)
    refl refl refl seat.0.away (λ k. alike_same x.mailbox (plain ranks s.number).mailbox k (ap (λ (y : PlainRank). y.mailbox) e))
    (refl, refl, m.2, m.3, m.4) tt (λ o ne h. not_here o token _ s.number _ ne at h)

whites : (a b : Colour) → darker a b ≡ White → (a ≡ White) × (b ≡ White)
whites Black b e = cc
whites White b e = (refl, e)

pub conclude_deed : (ranks : List PlainRank) (token : Token) (s : PlainSeat) (x : PlainRank) → x ≡ plain ranks s.number → IsSeat ranks token s
    → s.ended ≡ false → s.asked ≡ None → is_here (shown_by s) ≡ true → (s.n ≡ 1) ⊎ (s.tried ≡ true) → s.number ≡ 0 → mixed (shown_by s) ≡ White
    → After s.number conclude ranks token (set ranks s.number (record x { ended = true })) Over (record s { here = None; ended = true })
conclude_deed ranks token s x e seat live rest here tried first white =
    let m = matching ranks token s x e seat.0 in
    let at : token ≡ At s.number (token_of (shown_by s)) = here_is s.here s.number token here seat.0.here in
    let colour : (place (told_of ranks token) s.number).colour ≡ s.colour = ap (λ (y : Place). y.colour) (told_place ranks token s.number) ∙ seat.0.matches.1 in
    let pale = whites s.colour (token_of (shown_by s)) white in
    let held : token ≡ At s.number White = at ∙ ap (λ (c : Colour). At s.number c) pale.1 in
    let count : length (map place_of ranks) ≡ s.n = length-map ranks place_of ∙ sym seat.0.sized in
    let told_tried : s.tried ≡ true → (place (told_of ranks token) s.number).tried ≡ true =
    λ t. ap (λ (y : Place). y.tried) (told_place ranks token s.number) ∙ seat.0.matches.2 ∙ t in
    own conclude ranks token Over s (record s { here = None; ended = true }) (record x { ended = true }) seat (
      acts ranks token s seat live,
      first,
      ⊎_elim (λ one. subst (λ (k : ℕ). (place (told_of ranks token) k).busy ≡ false) (sym first)
          (seat.1.sane.alone (count ∙ one) (held ∙ ap (λ (k : ℕ). At k White) first))) (λ t. lazy ranks token s seat t) tried,
      mail_is ranks token s x Rest e (own_rest s.asked x.mailbox rest m.4),
      held,
      colour ∙ pale.0,
      ⊎_elim (λ one. inl (count ∙ one)) (λ t. inr (told_tried t)) tried,
    )
    (ap (λ (y : Place). record (put_place (told_of ranks token) s.number (record y { ended = true })) { token = Over }) (mine ranks token s x e))
    refl refl refl seat.0.away (λ k. alike_same x.mailbox (plain ranks s.number).mailbox k (ap (λ (y : PlainRank). y.mailbox) e))
    (m.0, m.1, m.2, refl, m.4) tt (λ o ne h. not_here o token _ s.number _ ne at h)

pub over_quiet : (ranks : List PlainRank) (token : Token) (s : PlainSeat) → IsSeat ranks token s → token ≡ Over → s.busy ≡ false
over_quiet ranks token s seat over =
    let t : Told = told_of ranks token in
    let quiet : PictureInvariant (length t.places) (picture t) Over = subst (PictureInvariant (length t.places) (picture t)) over seat.1.token in
    false_from_ne_true s.busy (λ b. quiet s.number (
      inside ranks s.number seat.0.inside,
      inl (ap (λ (y : Place). y.busy) (told_place ranks token s.number) ∙ seat.0.matches.0 ∙ b),
    ))
