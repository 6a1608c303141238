use Rattle.circle_lists.proofs.Prelude.{rules, arith, ◌≡◌, ◌+◌, ◌∷◌, ◌++◌, [], length, length-append, sym, ap, subst, ℕ, List, Option, Some, None, Bor, IfSome}
use Rattle.circle_lists.proofs.Prelude.{IsUtf8, IfOk-weaker, MatchResult-weaker, lines_of, cut, path_from, RankList, Spells, IsDamaged, IsHead}
use Rattle.circle_lists.proofs.Damage.{Reader, Stands}
use Rattle.circle_lists.proofs.Decoded.{starts, head_room, Reads, goes_on, bad_torn, at_end, ended_badly, cut_shorter}
use Rattle.circle_lists.proofs.decoding.decode.Goals as goal

pub loop-text-init : goal.loop-text-init
loop-text-init c =
    let r : Reader = record { bytes = c.args.bytes.now; rank = c.args.rank; known = c.args.known } in
    let h = subst
    (λ (o : Option (ℕ × Bor (List ℕ))). IfSome o (λ f. (text : List ℕ) × IsHead text r.rank r.known f.0 × (cut 10 r.bytes ≡ Some (text, f.1.now))))
    c.in-Some.is c.in_ok-ranks.ensures.head in
    let room = head_room r c.in-Some.ranks h.0 c.in-Some.rest.now h.1 h.2 in
    record {
      stands = subst (λ ps. Stands r c.in-Some.ranks ps (lines_of c.in-Some.rest.now)) (sym c.new-paths.ensures.items)
          (starts r c.in-Some.ranks h.0 c.in-Some.rest.now h.1 h.2);
      room = omega (arith, room, ap length c.new-paths.ensures.items);
      small = search rules;
    }

pub returns-in_default-2-clause-ok : goal.returns-in_default-2-clause-ok
returns-in_default-2-clause-ok c =
    let r : Reader = record { bytes = c.args.bytes.now; rank = c.args.rank; known = c.args.known } in
    let reads : Reads r c.in-Some.ranks c.loop-text.paths.items c.loop-text.rest.now c.in-Some-cut_line.text.now c.in-Some-cut_line.behind.now =
    record { stands = c.loop-text.invariant.stands; first = sym c.in-Some-cut_line.ensures } in
    IfOk-weaker c.ended.result _ (λ (told : RankList). Spells r.bytes r.rank told.ranks told.paths.items)
    (λ l h. subst (λ (told : RankList). Spells r.bytes r.rank told.ranks told.paths.items) (sym h.1) (at_end reads h.0)) c.ended.ensures.ok

pub returns-in_default-2-clause-refused : goal.returns-in_default-2-clause-refused
returns-in_default-2-clause-refused c =
    let r : Reader = record { bytes = c.args.bytes.now; rank = c.args.rank; known = c.args.known } in
    let reads : Reads r c.in-Some.ranks c.loop-text.paths.items c.loop-text.rest.now c.in-Some-cut_line.text.now c.in-Some-cut_line.behind.now =
    record { stands = c.loop-text.invariant.stands; first = sym c.in-Some-cut_line.ensures } in
    let none : path_from c.in-Some-cut_line.text.now ≡ None = first_of (cc, search rules) in
    MatchResult-weaker c.ended.result c.ended.ensures.refused (λ l h. h) (ended_badly c.reading_undoes_writing.ensures reads none)

pub loop-text-smaller : goal.loop-text-smaller
loop-text-smaller c = cut_shorter 10 c.loop-text.rest.now c.in-Some-cut_line.text.now c.in-Some-cut_line.behind.now (sym c.in-Some-cut_line.ensures)

pub loop-text-preserved : goal.loop-text-preserved
loop-text-preserved c =
    let r : Reader = record { bytes = c.args.bytes.now; rank = c.args.rank; known = c.args.known } in
    let before = c.loop-text.invariant in
    let reads : Reads r c.in-Some.ranks c.loop-text.paths.items c.loop-text.rest.now c.in-Some-cut_line.text.now c.in-Some-cut_line.behind.now =
    record { stands = before.stands; first = sym c.in-Some-cut_line.ensures } in
    let path = c.in-Some-2.path in
    let told : path_from c.in-Some-cut_line.text.now ≡ Some path = first_of (cc, search rules) in
    let utf8 : IsUtf8 path = subst (λ o. IfSome o IsUtf8) c.in-Some-2.is c.in_ok-path.ensures.utf8 in
    let less = cut_shorter 10 c.loop-text.rest.now c.in-Some-cut_line.text.now c.in-Some-cut_line.behind.now (sym c.in-Some-cut_line.ensures) in
    let more = goes_on c.reading_undoes_writing.ensures reads path told utf8 (omega (arith, before.room, before.small)) in
    let count : length (c.loop-text.paths.items ++ path ∷ []) ≡ length c.loop-text.paths.items + 1 = length-append c.loop-text.paths.items (path ∷ []) in
    record {
      stands = subst (λ ps. Stands r c.in-Some.ranks ps (lines_of c.in-Some-cut_line.behind.now)) (sym c.in_ok-push.ensures.items) more;
      room = omega (arith, before.room, less, count, ap length c.in_ok-push.ensures.items);
      small = before.small;
    }

pub returns-clause-refused : goal.returns-clause-refused
returns-clause-refused c =
    let r : Reader = record { bytes = c.args.bytes.now; rank = c.args.rank; known = c.args.known } in
    let torn : cut 10 c.loop-text.rest.now ≡ None = first_of (cc, search rules) in
    let count : c.len.result ≡ length c.loop-text.paths.items = search rules in
    subst (λ n. IsDamaged r.bytes r.rank r.known (n + 2)) (sym count)
    (bad_torn c.reading_undoes_writing.ensures c.loop-text.rest.now c.loop-text.invariant.stands torn)
