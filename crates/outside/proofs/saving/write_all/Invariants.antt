use Rattle.outside.proofs.Prelude.{◌≡◌, ◌-◌, ◌≤◌, length, take, Some, IfSome, is_some, RoseBy, new_file, Holds, WroteFront}
use Rattle.outside.proofs.saving.write_all.Given as goal

abbrev pub invariant-loop-at : goal.invariant-loop-at
invariant-loop-at g l =
    let plot = g.G.Plot in
    record {
      inside : l.at ≤ length l.bytes;
      written : IfSome (plot.tree l.fn.ground) (λ files. IfSome (plot.tree l.ground) (Holds l.path (Some (new_file (take l.at l.bytes))) files));
      tells : is_some (plot.tree l.ground) ≡ is_some (plot.tree l.fn.ground);
      area : plot.area l.ground ≡ plot.area l.fn.ground;
      count : RoseBy 0 (plot.count l.fn.ground) (plot.count l.ground);
      front : WroteFront plot.gives l.path l.bytes l.at l.fn.ground l.ground;
    }

abbrev pub decreases-loop-at : goal.decreases-loop-at
decreases-loop-at g l = length l.bytes - l.at
