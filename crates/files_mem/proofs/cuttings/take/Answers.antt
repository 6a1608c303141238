use Rattle.files_mem.proofs.Prelude.{◌≡◌, refl, ap, sym, ◌∙◌, is_some, position, Some, cuts_at, first_index, first_found, is_first, is_of, rest_there}
use Rattle.files_mem.proofs.Prelude.{told_there}
use Rattle.files_mem.proofs.cuttings.take.Goals.{After-remove}
use Rattle.files_mem.proofs.cuttings.take.Goals as goal

pub unwrap-place-requires : goal.unwrap-place-requires
unwrap-place-requires c =
    ap is_some (c.place_of.ensures ∙ ap (position (is_of c.args.path.now)) c.deref.ensures.value
    ∙ first_found c.args.path.now c.args.out.now.items c.requires)

-- the place is that of the first file at the path
is_its : (c : After-remove) → c.unwrap-place.result ≡ first_index c.args.path.now c.args.out.now.items
is_its c =
    is_first c.args.path.now c.args.out.now.items c.unwrap-place.result c.requires
    (sym (c.place_of.ensures ∙ ap (position (is_of c.args.path.now)) c.deref.ensures.value) ∙ c.unwrap-place.ensures)

told : (c : After-remove) → (c.remove.result.path ≡ c.args.path.now) × (cuts_at c.args.path.now c.args.out.now.items ≡ Some c.remove.result.cuts)
told c =
    told_there c.args.path.now c.args.out.now.items c.args.out.now.items c.unwrap-place.result c.remove.result refl (is_its c)
    c.remove.ensures.value c.requires

pub returns-clause-path : goal.returns-clause-path
returns-clause-path c = (told c).0

pub returns-clause-cuts : goal.returns-clause-cuts
returns-clause-cuts c = (told c).1

pub returns-clause-rest : goal.returns-clause-rest
returns-clause-rest c =
    c.remove.ensures.items ∙ rest_there c.args.path.now c.args.out.now.items c.args.out.now.items c.unwrap-place.result refl (is_its c)
