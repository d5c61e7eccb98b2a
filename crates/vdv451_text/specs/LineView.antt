-- Inner: the code's view of a line, as the definitions have it.
use Rattle.std.specs.Option.{option_map}
use Rattle.vdv451_text.specs.declared.lines.Line.{Line as SeenLine}
use Rattle.vdv451_text.specs.declared.lines.Line.TheVariants as seen
use Rattle.vdv451_text.specs.Lines.{Line, Blank, Says, NoKeyword}

-- what the line says
abbrev pub said : SeenLine → Line
said seen.Blank = Blank
said (seen.Says keyword rest) = Says keyword (option_map (λ bytes. bytes.now) rest)
said seen.NoKeyword = NoKeyword
