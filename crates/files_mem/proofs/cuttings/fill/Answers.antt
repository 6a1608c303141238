use Rattle.files_mem.proofs.Prelude.{◌++◌, ap, ◌∙◌, sym, arith, length, take, vec_capacity, Spanned, bytes_of_all}
use Rattle.files_mem.proofs.Spanning.{joined_on, room_left}
use Rattle.files_mem.proofs.cuttings.fill.Goals as goal

pub put_behind-requires : goal.put_behind-requires
put_behind-requires c =
    let fits = room_left c.args.spans.now c.loop-span.span-index c.span-item.result c.loop-span.room.items (vec_capacity c.loop-span.room)
    c.loop-span-test.true c.loop-span.invariant.bytes (omega (arith, c.requires.room, c.loop-span.invariant.capacity)) in
    omega (arith, fits, ap length c.bytes.ensures, ap (λ (s : Spanned). length s.bytes) c.span-item.is)

pub loop-span-preserved : goal.loop-span-preserved
loop-span-preserved c =
    let spans = c.args.spans.now in
    let i = c.loop-span.span-index in
    record {
      bytes = c.put_behind.ensures.items ∙ ap (λ r. r ++ c.bytes.result.now) c.loop-span.invariant.bytes
          ∙ ap (λ b. bytes_of_all (take i spans) ++ b) (c.bytes.ensures ∙ ap (λ (s : Spanned). s.bytes) c.span-item.is)
          ∙ sym (joined_on spans i c.span-item.result c.loop-span-test.true);
      capacity = omega (arith, c.put_behind.ensures.capacity, c.loop-span.invariant.capacity);
    }
