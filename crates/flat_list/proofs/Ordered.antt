-- The orders of a sort are total orders.
use Rattle.flat_list.proofs.Prelude.{◌≡◌, Bool, true, false, List, sym, subst, IsTotalOrder, options_total, IsPermutation, on_total, then_total, back_total}
use Rattle.flat_list.proofs.Prelude.{nat_cmp_total, nat_list_cmp_total, base_of, path_cmp_total, Entry, Field, by_path, by_field, turned, sort_order, size_of}
use Rattle.flat_list.proofs.Prelude.{time_of, kind_of}
use Rattle.flat_list.specs.declared.ordering.Field.TheVariants as field

by_path_total : IsTotalOrder by_path
by_path_total = on_total (λ e. e.path) path_cmp_total

by_field_total : (f : Field) → IsTotalOrder (by_field f)
by_field_total field.Path = by_path_total
by_field_total field.Name = on_total (λ e. base_of e.path) nat_list_cmp_total
by_field_total field.Size = on_total (λ e. size_of e.stat) (options_total nat_cmp_total)
by_field_total field.Mtime = on_total (λ e. time_of e.stat) (options_total nat_cmp_total)
by_field_total field.Kind = on_total (λ e. kind_of e.stat) (options_total nat_cmp_total)

turned_total : (down : Bool) (f : Field) → IsTotalOrder (turned down (by_field f))
turned_total false f = by_field_total f
turned_total true f = back_total (by_field_total f)

pub sort_order_total : (f : Field) (down : Bool) → IsTotalOrder (sort_order f down)
sort_order_total f down = then_total (turned_total down f) by_path_total

-- what a sort makes of a copy of a list has the entries of the list
pub all_kept : (list copy sorted out : List Entry) → copy ≡ list → out ≡ sorted → IsPermutation copy sorted → IsPermutation list out
all_kept list copy sorted out same is all = subst (IsPermutation list) (sym is) (subst (λ (es : List Entry). IsPermutation es sorted) same all)
