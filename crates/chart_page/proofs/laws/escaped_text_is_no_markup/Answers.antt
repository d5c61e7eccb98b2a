use Rattle.chart_page.proofs.TextLemmas.{escaped_plain, lone_byte}
use Rattle.chart_page.proofs.laws.escaped_text_is_no_markup.Goals as goal

pub returns-clause-bytes : goal.returns-clause-bytes
returns-clause-bytes c = escaped_plain

pub returns-clause-ampersands : goal.returns-clause-ampersands
returns-clause-ampersands c = lone_byte
