use Rattle.checkpoints.proofs.Prelude.{inl, inr, sym, subst, map, Vec, Global, IfSome, flat_map, length-map, Path, IsRank, HoldLists, side_of, IsRead}
use Rattle.checkpoints.proofs.Prelude.{ArePlaced, HasNoRanks}
use Rattle.checkpoints.proofs.Read.{no_ranks}
use Rattle.checkpoints.proofs.Written.{named_at}
use Rattle.checkpoints.proofs.reading.read_checkpoint.Goals as goal

pub returns-in-Err-clause-stopped : goal.returns-in-Err-clause-stopped
returns-in-Err-clause-stopped g c =
    let dir = c.args.dir.now in
    let before = side_of g.G.Plot c.args.files.now in
    let after = side_of g.G.Plot c.read_left.new.files in
    let named = named_at dir c.in-Some.is c.in_ok-path.ensures.some in
    let stops : HasNoRanks dir before after c.stop_of_lists.result =
    no_ranks dir c.in-Some.path c.in_ok-done.done before after (g.G.Plot.tree c.read_list.new.files) (g.G.Plot.count c.read_list.new.files)
    c.in-Err.error c.stop_of_lists.result named c.in_ok-done.ensures.read c.read_list.ensures.same c.read_list.ensures.count.kept
    c.in-Err.ensures.stopped c.stop_of_lists.ensures in
    inr (inr (inr (inl stops)))

pub returns-clause-read : goal.returns-clause-read
returns-clause-read g c =
    let dir = c.args.dir.now in
    let done = c.in_ok-done.done in
    let items = λ (list : Vec Path Global). list.items in
    let left = c.in-Ok.left.items in
    let before = side_of g.G.Plot c.args.files.now in
    let named = named_at dir c.in-Some.is c.in_ok-path.ensures.some in
    record {
      list = subst (λ p. IsRead p done before) named c.in_ok-done.ensures.read;
      few = c.in_ok-done.ensures.few;
      ranks = subst (λ t. IfSome t (HoldLists dir (map items left))) c.read_list.ensures.same c.in-Ok.ensures.told;
      number = subst (IsRank 0) (sym (length-map left items)) c.in-Ok.ensures.number;
      placed = subst (λ ls. ArePlaced done (flat_map (λ l. l) (map items ls))) c.deref.ensures.value c.in_ok-look_placed.ensures.placed;
    }
