use Rattle.ee_store_files.proofs.Frames.{ends_by, open_by, shut_by}
use Rattle.ee_store_files.proofs.damage.ends_one.Goals as goal

pub returns-then-front-head-clause-ok : goal.returns-then-front-head-clause-ok
returns-then-front-head-clause-ok g c clean =
    let log = g.D.Disk.seen c.args.log.now in
    let is = rw c.in-Some.is at (c.in_ok-front.ensures.ok clean) in
    let head = c.requires.head (c.read_front.ensures.same.clean clean) in
    shut_by c.args.page_size c.args.i log _ c.args.head.now is head c.if-front-head.true

pub returns-clause-ok : goal.returns-clause-ok
returns-clause-ok g c clean =
    let log = g.D.Disk.seen c.args.log.now in
    let is = rw c.in-Some.is at (c.in_ok-front.ensures.ok clean) in
    let head = c.requires.head (c.read_front.ensures.same.clean clean) in
    let ends = ends_by c.args.page_size c.args.i log _ c.args.head.now is head in
    let test = c.is_end.ensures in
    (open_by c.args.page_size c.args.i log _ c.args.head.now is head c.if-front-head.false, (λ it. ends.0 (test.0 it), λ it. test.1 (ends.1 it)))
