use Rattle.nq_script.proofs.Printing.{head-printed}
use Rattle.nq_script.proofs.print.print_head.Goals as goal

pub returns : goal.returns
returns c =
    head-printed c.args.head.now c.new-text.result.items c.append_line.new.text.items c.append_line-2.new.text.items c.append_line-3.new.text.items
    c.append_longest.new.text.items c.append_files.new.text.items c.push_bytes.new.out.items c.new-text.ensures.items c.in_ok-append_line.ensures
    c.in_ok-append_line-2.ensures c.in_ok-append_line-3.ensures c.in_ok-append_longest.ensures c.in_ok-append_files.ensures c.in_ok-push_bytes.ensures
