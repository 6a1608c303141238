use Rattle.find_tests.proofs.Prelude.{rules, ◌≡◌, ◌∷◌, length, ap, ◌∙◌, sym, subst, arith, chars, AnyText, OneOf}
use Rattle.find_tests.proofs.Matched.{Follows, fails_with_more, fails_at, follows_one, alone_at_star, starred_at_star}
use Rattle.find_tests.proofs.matching.front_of.Goals as goal

pub returns-in_default-piece : goal.returns-in_default-piece
returns-in_default-piece c =
    let left : c.loop-piece.left.now ≡ AnyText ∷ c.in-Some.behind.now = c.in-Some.ensures.cases.0 ∙ ap (λ p. p ∷ c.in-Some.behind.now) c.in_default-piece.is in
    let f : Follows c.args.pieces.now (AnyText ∷ c.in-Some.behind.now) (chars c.args.text.now) (chars c.loop-piece.rest.now) =
    subst (λ xs. Follows c.args.pieces.now xs (chars c.args.text.now) (chars c.loop-piece.rest.now)) left c.loop-piece.invariant.follows in
    record {
      alone = alone_at_star _ _ _ _ f;
      starred = starred_at_star _ _ _ _ f;
      fewer = omega (arith, ap length left, c.loop-piece.invariant.fewer);
      shorter = c.loop-piece.invariant.shorter;
    }

pub returns-in_default-pass_one : goal.returns-in_default-pass_one
returns-in_default-pass_one c =
    let left : c.loop-piece.left.now ≡ OneOf c.in-OneOf.class ∷ c.in-Some.behind.now = c.in-Some.ensures.cases.0
    ∙ ap (λ p. p ∷ c.in-Some.behind.now) c.in-OneOf.is in
    let f : Follows c.args.pieces.now (OneOf c.in-OneOf.class ∷ c.in-Some.behind.now) (chars c.args.text.now) (chars c.loop-piece.rest.now) =
    subst (λ xs. Follows c.args.pieces.now xs (chars c.args.text.now) (chars c.loop-piece.rest.now)) left c.loop-piece.invariant.follows in
    fails_at _ _ _ _ _ f c.in_default-pass_one.ensures

pub loop-piece-preserved : goal.loop-piece-preserved
loop-piece-preserved c =
    let left : c.loop-piece.left.now ≡ OneOf c.in-OneOf.class ∷ c.in-Some.behind.now = c.in-Some.ensures.cases.0
    ∙ ap (λ p. p ∷ c.in-Some.behind.now) c.in-OneOf.is in
    let f : Follows c.args.pieces.now (OneOf c.in-OneOf.class ∷ c.in-Some.behind.now) (chars c.args.text.now) (chars c.loop-piece.rest.now) =
    subst (λ xs. Follows c.args.pieces.now xs (chars c.args.text.now) (chars c.loop-piece.rest.now)) left c.loop-piece.invariant.follows in
    record {
      text = search rules;
      follows = subst (λ t. Follows c.args.pieces.now c.in-Some.behind.now (chars c.args.text.now) t) (sym c.in-Some-pass_one.ensures.1)
          (follows_one _ _ _ _ _ f c.in-Some-pass_one.ensures.0);
      fewer = omega (arith, ap length left, c.loop-piece.invariant.fewer);
      shorter = omega (arith, c.in-Some-pass_one.ensures.2, c.loop-piece.invariant.shorter);
    }

pub returns-in-Some-next_char : goal.returns-in-Some-next_char
returns-in-Some-next_char c = fails_with_more _ _ _ _ _ _ c.loop-piece.invariant.follows c.in_default.ensures.cases c.in-Some-next_char.ensures.0
