mod AllAscii
