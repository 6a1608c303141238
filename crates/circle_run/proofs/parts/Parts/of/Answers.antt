use Rattle.circle_run.proofs.Prelude.{◌≡◌, sym, ap, ◌∙◌, List, [], ◌∷◌, ◌++◌, map, append-nil, flat_map, map_push, flat_map-append, Book}
use Rattle.circle_run.proofs.parts.Parts.of.Goals as goal

-- a list of what each has, with that of one more
map_more : {X Y : Type 0} (f : X → Y) (xs : List X) (ys ys' : List Y) (x : X) (y : Y) → ys ≡ map f xs → y ≡ f x → ys' ≡ ys ++ y ∷ []
    → ys' ≡ map f (xs ++ x ∷ [])
map_more f xs ys ys' x y old is new = new ∙ ap (λ zs. zs ++ y ∷ []) old ∙ ap (λ z. map f xs ++ z ∷ []) is ∙ sym (map_push f xs x)

pub loop-rank-preserved : goal.loop-rank-preserved
loop-rank-preserved g c =
    let i = c.loop-rank.invariant in
    let rank = c.in-Some.rank in
    let all = c.loop-rank.yielded in
    let has = c.take_apart-job.ensures in
    record {
      jobs = map_more (λ r. r.job) all _ _ rank _ i.jobs has.job c.in_ok-push.ensures.items;
      seats = map_more (λ r. r.seat) all _ _ rank _ i.seats has.seat c.in_ok-push-2.ensures.items;
      sums_seats = map_more (λ r. r.sums_seat) all _ _ rank _ i.sums_seats has.sums_seat c.in_ok-push-3.ensures.items;
      left = map_more (λ r. r.queue) all _ _ rank _ i.left (c.into_list.ensures ∙ has.queue)
          (ap (map (λ v. v.items)) c.in_ok-push-4.ensures.items ∙ map_push (λ v. v.items) c.loop-rank.left.items c.into_list.result);
      shares = map_more (λ r. r.book.share) all _ _ rank _ i.shares (ap (λ (b : Book). b.share) has.book) c.in_ok-push-5.ensures.items;
      numbers = c.in_ok-append.ensures.items ∙ ap (λ zs. zs ++ c.take_apart-job.result.4.sums.items) i.numbers
          ∙ ap (λ zs. flat_map (λ r. r.book.sums.items) all ++ zs) (ap (λ (b : Book). b.sums.items) has.book ∙ sym (append-nil rank.book.sums.items))
          ∙ sym (flat_map-append (λ r. r.book.sums.items) all (rank ∷ []));
    }
