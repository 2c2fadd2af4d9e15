use Rattle.std.proofs.Common.{refl}
use Rattle.std.specs.Fmt.{digits}
use Rattle.ee_wire.specs.Heads.{line, head_text}
use Rattle.ee_wire.specs.Answers.{whole_text}
use Rattle.ee_wire.proofs.writing.unserved_bytes.Goals as goal

pub returns-in-NoMemory-true : goal.returns-in-NoMemory-true
unfolding digits line head_text whole_text
returns-in-NoMemory-true c = rw (c.in-NoMemory-true.is-0, c.in-NoMemory-true.is-1) refl

pub returns-in-NoMemory-false : goal.returns-in-NoMemory-false
unfolding digits line head_text whole_text
returns-in-NoMemory-false c = rw (c.in-NoMemory-false.is-0, c.in-NoMemory-false.is-1) refl

pub returns-in-StoreFailed-true : goal.returns-in-StoreFailed-true
unfolding digits line head_text whole_text
returns-in-StoreFailed-true c = rw (c.in-StoreFailed-true.is-0, c.in-StoreFailed-true.is-1) refl

pub returns-in-StoreFailed-false : goal.returns-in-StoreFailed-false
unfolding digits line head_text whole_text
returns-in-StoreFailed-false c = rw (c.in-StoreFailed-false.is-0, c.in-StoreFailed-false.is-1) refl
