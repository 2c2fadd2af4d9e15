use Rattle.ee_store_books.proofs.OneContent as proof
use Rattle.ee_store_books.proofs.laws.one_content_law.Goals as goal

pub returns : goal.returns
returns c = proof.one_content
