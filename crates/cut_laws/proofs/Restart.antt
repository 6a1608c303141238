-- A restart, in trees that are the same at and under the starts.
use Rattle.cut_laws.proofs.Prelude.{◌≡◌, ◌+◌, List, ◌++◌, ap, ◌∙◌, sym, arith, sum_by, flat_map, sum_by-append, sum_by-IsPermutation, Entry, all_told, walk}
use Rattle.cut_laws.proofs.Prelude.{weight_of, IsWalkOf, IsJoined, from_apart, all_told_in, in_order, restart_is_walk, RestartIsWalkInEach, FineWalksAreOne}
use Rattle.cut_laws.proofs.Prelude.{RestartFindsTheWalk}
use Rattle.cut_laws.proofs.Local.{left_within, all_deeper, walks_are_local}

pub restart_is_walk_in_each : RestartIsWalkInEach
restart_is_walk_in_each stopped again other starts left done later list t valid apart same there cut walks joined =
    let within = left_within stopped starts left done t cut in
    let here = walks_are_local again stopped left later (λ q h. sym (same q (all_deeper starts left within q h))) walks in
    walks_are_local stopped other starts list there (restart_is_walk stopped starts left done later list t valid apart cut here joined)

-- ---- where no answer failed

pub fine_walks_are_one : FineWalksAreOne
fine_walks_are_one files starts list other apart walks others fine fine' =
    let o = in_order starts (from_apart starts apart) in
    let plain : (es : List Entry) → IsWalkOf files es starts → sum_by weight_of es ≡ 0 → es ≡ flat_map (walk files all_told) o.list =
    λ es is none. is o.list o.all o.ascend ∙ ap (λ a. flat_map (walk files a) o.list) (λ i path. all_told_in es path none i) in
    plain list walks fine ∙ sym (plain other others fine')

joined_weight : (done later list : List Entry) → IsJoined done later list → sum_by weight_of list ≡ sum_by weight_of done + sum_by weight_of later
joined_weight done later list joined =
    sum_by-IsPermutation weight_of (done ++ later) list joined.all ∙ sum_by-append weight_of done later

pub restart_finds_the_walk : RestartFindsTheWalk
restart_finds_the_walk stopped again other starts left done later list whole t valid apart same there cut walks joined wholes fine fine' fine'' =
    let is = restart_is_walk_in_each stopped again other starts left done later list t valid apart same there cut walks joined in
    let none : sum_by weight_of list ≡ 0 = omega (arith, joined_weight done later list joined, fine, fine') in
    fine_walks_are_one other starts list whole apart is wholes none fine''
